-- What a cursor is still to give.
use Rattle.std.specs.Prelude.{List}
use Rattle.maths.specs.Tables.{tabled, rows_of}
use Rattle.segments.specs.declared.segment.Segment.{Segment}
use Rattle.cursor.specs.Cursors.{seen, rest}
use Rattle.cursor.specs.Drawings.{given_by, still}
use Rattle.replay_segments.specs.declared.given.Given.{Given}

abbrev pub to_come : Given → List Segment
to_come s = given_by (still (tabled (rows_of s.host.rows)) (seen s.cursor) (rest s.cursor s.commands.now))
