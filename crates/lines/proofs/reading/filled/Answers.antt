use Rattle.std.proofs.Common.{rules, subst}
use Rattle.std.specs.Io.KnownBytes.{Consumes}
use Rattle.std.proofs.KnownBytes.{Consumes-trans}
use Rattle.lines.proofs.Filling.{read_after}
use Rattle.lines.proofs.reading.filled.Goals as goal

pub loop-preserved : goal.loop-preserved
loop-preserved g c =
    let inv = c.loop.invariant in
    let joined = read_after c.loop.count c.in_ok-more.more c.loop.places c.read_some.new.places inv.2 c.in_ok-more.ensures.fits.0 in
    (search rules, search rules, search rules, subst (Consumes _ _) joined (Consumes-trans _ _ _ _ _ inv.3 c.in_ok-more.ensures.bytes))
