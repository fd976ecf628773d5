use Rattle.cursor.proofs.cuts.+halve.Given as goal

abbrev pub decreases-halve : goal.decreases-halve
decreases-halve l = l.times
