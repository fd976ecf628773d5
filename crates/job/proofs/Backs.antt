-- A tape's bytes are a job of its commands.
use Rattle.std.proofs.Common.{◌≡◌, ℕ, List, [], ◌∷◌, map, length, refl, ap, ◌∙◌, fold, arith}
use Rattle.std.specs.List.{flat_map}
use Rattle.std.specs.Borrow.{Bor}
use Rattle.path.specs.declared.command.Command.{Command}
use Rattle.path.specs.declared.style.Stroke.{Stroke}
use Rattle.job.specs.declared.item.Item.TheVariants.{Path}
use Rattle.job.specs.Readers.{start}
use Rattle.job.specs.Jobs.{empty_job, styled, commands_of, dashes_of}
use Rattle.job.specs.Laws.{AllFitting, EnoughPlaces}
use Rattle.job.specs.Whole.{whole}
use Rattle.job.proofs.Stores.{stores_spelled}
use Rattle.job.specs.Decoding.{records}
use Rattle.job.specs.ReadBack.{ReadsBack}

all_commands : (cs : List Command) → flat_map commands_of (map Path cs) ≡ cs
all_commands [] = refl
all_commands (c ∷ cs) = ap (λ ds. c ∷ ds) (all_commands cs)

no_dashes : (cs : List Command) → flat_map dashes_of (map Path cs) ≡ []
no_dashes [] = refl
no_dashes (c ∷ cs) = no_dashes cs

same_style : (s : Stroke) (cs : List Command) → fold styled s (map Path cs) ≡ s
same_style s [] = refl
same_style s (c ∷ cs) = same_style s cs

pub reads_back : (bytes : Bor (List ℕ)) (cs : List Command) → AllFitting (map Path cs) → bytes.now ≡ records cs → ReadsBack cs bytes
reads_back bytes cs fitting is commands dashes enough =
    let j = empty_job commands dashes in
    let commands_fit : EnoughPlaces 4096 j.commands (length (flat_map commands_of (map Path cs))) = rw (all_commands cs) (omega arith) in
    let dashes_fit : EnoughPlaces 32 j.dashes (length (flat_map dashes_of (map Path cs))) = rw (no_dashes cs) (omega arith) in
    let s = stores_spelled (start bytes) j (whole (start bytes) j) refl (map Path cs) fitting is commands_fit dashes_fit in
    record { accepted = s.accepted; style = s.style ∙ same_style j.style cs; commands = s.commands ∙ all_commands cs; dashes = s.dashes ∙ no_dashes cs }
