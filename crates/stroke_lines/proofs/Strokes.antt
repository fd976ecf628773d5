-- What is printed of a stroke into an empty list.
use Rattle.std.proofs.Common.{◌≡◌, ℕ, ap₂, ◌∙◌}
use Rattle.maths.specs.Functions.{Functions}
use Rattle.sinks.specs.Meaning.{Meaning}
use Rattle.job.specs.Sayings.{Said}
use Rattle.stroke.specs.Histories.{Call, call, made, Promised}
use Rattle.stroke_lines.specs.Drawn.{drawn_lines}
use Rattle.stroke_lines.specs.Outlined.{empty_list, stroked_job, lines_of}

-- it is what the definition in values says
pub drawn_as : {c : Call} {before after : Meaning} (F : Functions) (segments places budget : ℕ) (j : Said)
    → c ≡ call j.commands j.style j.dashes F segments budget c.answer → before ≡ empty_list places → Promised c before after
    → drawn_lines after.list c.answer ≡ lines_of (stroked_job F segments places budget j)
drawn_as F segments places budget j is from p =
    ap₂ (λ (m : Meaning) a. drawn_lines m.list a) p.sink p.answer ∙ ap₂ (λ (d : Call) m. lines_of (made d m)) is from
