use Rattle.curves.proofs.curve.Curve.+time_impl.Given as goal

abbrev pub decreases-time_impl : goal.decreases-time_impl
decreases-time_impl l = l.levels
