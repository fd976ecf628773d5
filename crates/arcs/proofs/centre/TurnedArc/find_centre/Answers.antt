use Rattle.std.proofs.Common.{◌≡◌, ap, ◌∙◌}
use Rattle.path.specs.Vectors.{multiple}
use Rattle.arcs.specs.Centres.{radii_of, scaled_radii, scale_of, centred_by}
use Rattle.arcs.proofs.centre.TurnedArc.find_centre.Goals as goal

pub returns : goal.returns
returns c =
    let arc = c.args.self.arc in
    let p = c.args.half in
    let of : c.of.result ≡ radii_of arc = c.of.ensures in
    let k : c.scale-k.result ≡ scale_of c.args.scaled p (radii_of arc) = c.scale-k.ensures ∙ ap (scale_of c.args.scaled p) of in
    let half : c.scaled.result.half ≡ multiple p (scale_of c.args.scaled p (radii_of arc)) = c.scaled.ensures.half ∙ ap (multiple p) k in
    let radii : c.scaled.result.radii ≡ scaled_radii (radii_of arc) (scale_of c.args.scaled p (radii_of arc)) = c.scaled.ensures.radii ∙ (λ i. scaled_radii (of i) (k i)) in
    c.find_centre_by.ensures ∙ (λ i. centred_by arc c.args.self.turned (half i) (radii i) (k i))
