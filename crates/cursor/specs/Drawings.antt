-- Everything that a cursor gives for a whole drawing, with the questions on the way, and the runs that it divides into.
use Rattle.std.specs.Prelude.{Bool, true, false, cond, List, [], ◌∷◌, ◌++◌, map, is_some}
use Rattle.std.specs.Option.{option_to_list}
use Rattle.maths.specs.Functions.{Functions}
use Rattle.maths.specs.Questions.{Question}
use Rattle.path.specs.declared.command.Command.{Command}
use Rattle.curves.specs.declared.curve.Curve.{Curve as CubicCurve}
use Rattle.segments.specs.declared.mark.SegmentId.{SegmentId}
use Rattle.segments.specs.declared.segment.Segment.{Segment}
use Rattle.segments.specs.declared.segment.Segment.TheVariants.{Line, Curve, End}
use Rattle.segments.specs.Pieces.{to_segment}
use Rattle.cursor.specs.declared.subpath.Subpath.{Subpath}
use Rattle.cursor.specs.Subpaths.{drawn, stopped}
use Rattle.cursor.specs.Machines.{Machine, machine, read, read_questions}
use Rattle.cursor.specs.Cursors.{fresh}

-- a question to the host, or a segment given
pub data Event : Type 0 where
  asks : Question → Event
  gives : Segment → Event

-- the segments of the pieces to come; a piece that is nothing is passed over
unfoldable pub pieces_given : SegmentId → List CubicCurve → List Segment
pieces_given i [] = []
pieces_given i (k ∷ ks) = option_to_list (to_segment i k) ++ pieces_given i ks

-- the subpath after them: each one given ends at its own end
unfoldable pub pieces_drawn : SegmentId → Subpath → List CubicCurve → Subpath
pieces_drawn i s [] = s
pieces_drawn i s (k ∷ ks) = pieces_drawn i (cond (is_some (to_segment i k)) (drawn s k.d) s) ks

-- what is given before the next command is read
abbrev pub waiting : Machine → List Segment
waiting m = cond m.closing (End true ∷ []) [] ++ pieces_given m.id m.pending

-- the machine then
abbrev pub rested : Machine → Machine
rested m = machine m.splitting m.id (pieces_drawn m.id (cond m.closing (stopped m.subpath) m.subpath) m.pending) [] false

-- command by command: its questions, what it gives first, and what it leaves to come
unfoldable pub drawing : Functions → Machine → List Command → List Event
drawing F m [] = []
drawing F m (c ∷ cs) = let r = read F m c in
    map asks (read_questions F m c) ++ (map gives (option_to_list r.gave ++ waiting r.after) ++ drawing F (rested r.after) cs)

-- from any machine: what waits, and the commands that are left
abbrev pub still : Functions → Machine → List Command → List Event
still F m cs = map gives (waiting m) ++ drawing F (rested m) cs

-- a whole drawing
abbrev pub drawn_whole : Functions → Bool → List Command → List Event
drawn_whole F split cs = drawing F (fresh split) cs

abbrev pub given_by : List Event → List Segment
given_by [] = []
given_by (asks q ∷ es) = given_by es
given_by (gives s ∷ es) = s ∷ given_by es

-- A run: the segments up to the next end, or to the end of the commands, and whether they were closed.
pub record Run : Type 0 where
  pub segments : List Segment
  pub closed : Bool

abbrev pub run : List Segment → Bool → Run
run xs closed = record { segments = xs; closed = closed }

abbrev pub begin_with : Segment → List Run → List Run
begin_with s [] = run (s ∷ []) false ∷ []
begin_with s (r ∷ rs) = run (s ∷ r.segments) r.closed ∷ rs

-- the last run is the one that the end of the commands ends
abbrev pub runs : List Segment → List Run
runs [] = run [] false ∷ []
runs (End closed ∷ xs) = run [] closed ∷ runs xs
runs (Line i l ∷ xs) = begin_with (Line i l) (runs xs)
runs (Curve i k ∷ xs) = begin_with (Curve i k) (runs xs)
