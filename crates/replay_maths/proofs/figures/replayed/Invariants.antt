use Rattle.std.proofs.Common.{◌≡◌, drop}
use Rattle.replay_maths.specs.Figures.{no_figures, replayed, over, row_asked}
use Rattle.replay_maths.proofs.figures.replayed.Given as goal

-- the rows that are left, from here, end as all of them do from the start
abbrev pub invariant-loop-row : goal.invariant-loop-row
invariant-loop-row g l =
    (g.K.MathsHost.acts.functions l.host ≡ g.K.MathsHost.acts.functions l.initial.host)
    × (replayed (g.K.MathsHost.acts.functions l.initial.host) l.f (drop l.row-index l.rows) l.figures ≡ replayed (g.K.MathsHost.acts.functions l.initial.host) l.f l.rows no_figures)
    × (over (row_asked g.K.MathsHost.acts.asked l.f) (drop l.row-index l.rows) l.host ≡ over (row_asked g.K.MathsHost.acts.asked l.f) l.rows l.initial.host)
