-- The table: each row is worked out.
use Rattle.std.proofs.Common.{refl}
use lib.Count.{count_trailing_zeros}
use lib.Ieee.{is_nan, add, sub, mul, div, rem, neg, eq, lt, le, round, sum, size, span, climb, units, odd, of_bits, of_fields, of_int}
use Rattle.std.specs.Float.{round_to_format, round_with, float_is_finite, float_with_sign, sqrt}
use Rattle.cursor.specs.Drawings.{drawing, pieces_given, pieces_drawn}
use Rattle.dashes.specs.Patterns.{joined_over}
use Rattle.dashes.specs.Spans.{further}
use Rattle.dashes.specs.Walks.{walking, seeking, passed, taken_ranges}
use Rattle.stroke.specs.Calls.{run_by_run}
use Rattle.stroke.specs.Contours.{row}
use Rattle.stroke.specs.Outcomes.{perform, stroked}
use Rattle.stroke.specs.Outlines.{onward, one_onward}
use Rattle.stroke.specs.Ranges.{sliced}
use Rattle.worked.specs.Outcomes.{Comes, Takes}
use Rattle.worked.specs.Table.{Table, ByRuns}

pub table : Table
unfolding is_nan add sub mul div rem neg eq lt le round sum size span climb units odd of_bits of_fields of_int round_to_format round_with float_is_finite float_with_sign sqrt count_trailing_zeros drawing pieces_given pieces_drawn joined_over further walking seeking run_by_run perform stroked onward one_onward sliced passed
table = record {
  line = record { answers = λ F. refl; leaves = λ F. refl };
  dashed_line = (record { answers = λ F. refl; leaves = λ F. refl }, record { answers = λ F. refl; leaves = λ F. refl });
  dashed_square = record { answers = λ F. refl; leaves = λ F. refl };
  square_dot = record { answers = λ F. refl; leaves = λ F. refl };
  butt_dot = record { answers = λ F. refl; leaves = λ F. refl };
  corner = record { answers = λ F. refl; leaves = λ F. refl };
  offsets = ((refl, record { answers = λ F. refl; leaves = λ F. refl }), (refl, record { answers = λ F. refl; leaves = λ F. refl }));
  empty_gap = (refl, record { answers = λ F. refl; leaves = λ F. refl });
  short = ((refl, record { answers = λ F. refl; leaves = λ F. refl }), (refl, record { answers = λ F. refl; leaves = λ F. refl }), (refl, record { answers = λ F. refl; leaves = λ F. refl }));
  roots = (refl, refl);
}

-- and by its runs
pub by_runs : ByRuns
unfolding is_nan add sub mul div rem neg eq lt le round sum size span climb units odd of_bits of_fields of_int round_to_format round_with float_is_finite float_with_sign sqrt count_trailing_zeros drawing pieces_given pieces_drawn joined_over further walking seeking row onward one_onward sliced passed taken_ranges
by_runs = record {
  line = record { row = λ F. refl; steps = λ F. refl; ranges = λ F. refl };
  dashed_line = record { row = λ F. refl; steps = λ F. refl; ranges = λ F. refl };
  dashed_square = record { row = λ F. refl; steps = λ F. refl; ranges = λ F. refl };
  square_taken = λ F. refl;
  square_dot = record { row = λ F. refl; steps = λ F. refl; ranges = λ F. refl };
  corner = record { row = λ F. refl; steps = λ F. refl; ranges = λ F. refl };
  empty_gap = record { row = λ F. refl; steps = λ F. refl; ranges = λ F. refl };
}
