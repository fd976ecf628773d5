-- A stroke of at most 4096 commands does far fewer than 2 ^ 63 things.
use Rattle.std.proofs.Common.{◌≡◌, ℕ, zero, suc, ◌+◌, ◌*◌, ◌^◌, ◌<◌, ◌≤◌, Bool, true, false, cond, List, [], ◌∷◌, ◌++◌, map, flat_map, length, Some, None, Option, Float, refl, arith, length-append}
use Rattle.std.proofs.Math.Nat.{suc-mul}
use Rattle.std.proofs.lemmas.List.{length-map}
use Rattle.std.proofs.lemmas.Nat.{mul-le}
use Rattle.std.specs.Option.{option_to_list}
use Rattle.maths.specs.Functions.{Functions}
use Rattle.maths.specs.Questions.{Question}
use Rattle.path.specs.declared.command.Command.{Command}
use Rattle.path.specs.declared.command.Command.TheVariants.{MoveTo, LineTo, CurveTo, QuadTo, Close}
use Rattle.path.specs.declared.style.Stroke.{Stroke}
use Rattle.segments.specs.declared.segment.Segment.{Segment}
use Rattle.segments.specs.declared.segment.Segment.TheVariants.{Line, Curve, End}
use Rattle.cursor.specs.Machines.{Machine, read, read_questions}
use Rattle.cursor.specs.Drawings.{asks as asks_for, gives, waiting, rested, drawing, drawn_whole, given_by}
use Rattle.cursor.specs.Drawings as drawings
use Rattle.cursor.specs.Cursors.{fresh}
use Rattle.cursor.proofs.Whole.{lawful}
use Rattle.pen.specs.declared.nib.Nib.{Nib}
use Rattle.pen.specs.Nibs.{nib_of}
use Rattle.dashes.specs.declared.dasher.DashOp.{DashOp}
use Rattle.dashes.specs.declared.dasher.DashOp.TheVariants.{Done, Continue, Emit, Stroke as Whole}
use Rattle.dashes.specs.declared.dasher.walk.Walk.{Walk}
use Rattle.dashes.specs.Dashers.{begun, seeks, sought, next_of}
use Rattle.dashes.specs.Patterns.{Dashes, pattern_of}
use Rattle.dashes.specs.StepCounts.{most_steps}
use Rattle.dashes.specs.Walks.{DashEvent, walking, seeking}
use Rattle.dashes.specs.Walks as walks
use Rattle.stroke.specs.Outlines.{outline}
use Rattle.stroke.specs.Calls.{Action, clears, ends, draws, dash_actions, run_actions, run_by_run, stroke_actions}
use Rattle.stroke.specs.Runs.{walk_along}
use Rattle.stroke.specs.Ranges.{dash_of}
use Rattle.stroke.proofs.Bounds.{outline_bound, dash_bound, ranged_bound}

-- ---- what a cursor gives and asks

abbrev questions_of : List drawings.Event → ℕ
questions_of [] = 0
questions_of (asks_for q ∷ es) = suc (questions_of es)
questions_of (gives x ∷ es) = questions_of es

given_and_asked : (es : List drawings.Event) → length es ≡ length (given_by es) + questions_of es
given_and_asked [] = omega arith
given_and_asked (asks_for q ∷ es) = omega (arith, given_and_asked es)
given_and_asked (gives x ∷ es) = omega (arith, given_and_asked es)

after_questions : (qs : List Question) (es : List drawings.Event) → questions_of (map asks_for qs ++ es) ≡ length qs + questions_of es
after_questions [] es = omega arith
after_questions (q ∷ qs) es = omega (arith, after_questions qs es)

after_given : (xs : List Segment) (es : List drawings.Event) → questions_of (map gives xs ++ es) ≡ questions_of es
after_given [] es = refl
after_given (x ∷ xs) es = after_given xs es

-- a curve that is cut has the questions of its bends, four or one
at_most_four : (cut whole three : Bool) (p q r s t : Question) → length (cond cut (cond whole [] (cond three (p ∷ q ∷ r ∷ s ∷ []) (t ∷ []))) []) ≤ 4
at_most_four false whole three p q r s t = omega arith
at_most_four true true three p q r s t = omega arith
at_most_four true false true p q r s t = omega arith
at_most_four true false false p q r s t = omega arith

read_few : (F : Functions) (m : Machine) (c : Command) → length (read_questions F m c) ≤ 4
read_few F m (MoveTo p) = omega arith
read_few F m (LineTo p) = omega arith
read_few F m (CurveTo p q r) = at_most_four m.splitting _ _ _ _ _ _ _
read_few F m (QuadTo p q) = at_most_four m.splitting _ _ _ _ _ _ _
read_few F m Close = omega arith

questions_few : (F : Functions) (m : Machine) (cs : List Command) → questions_of (drawing F m cs) ≤ 4 * length cs
unfolding drawing
questions_few F m [] = omega arith
questions_few F m (c ∷ cs) =
    let r = read F m c in
    let xs = option_to_list r.gave ++ waiting r.after in
    let more = drawing F (rested r.after) cs in
    omega (arith, after_questions (read_questions F m c) (map gives xs ++ more), after_given xs more, read_few F m c, questions_few F (rested r.after) cs)

-- at most 17 things given for a command, and 4 questions
drawing_few : (F : Functions) (cs : List Command) → length (drawn_whole F true cs) ≤ 21 * length cs
drawing_few F cs = omega (arith, given_and_asked (drawn_whole F true cs), (lawful F true cs).few, questions_few F (fresh true) cs)

-- ---- a walk

-- for each step at most one dash
walking_few : (n : ℕ) (p : Dashes) (xs : List Segment) (op : DashOp) (w : Walk) → length (walking n p xs op w) ≤ 2 * suc n
unfolding walking
walking_few n p xs Done w = omega arith
walking_few n p xs Whole w = omega arith
walking_few zero p xs Continue w = omega arith
walking_few zero p xs (Emit r) w = omega arith
walking_few (suc n) p xs Continue w = omega (arith, walking_few n p xs (next_of p xs w).op (next_of p xs w).after)
walking_few (suc n) p xs (Emit r) w = omega (arith, walking_few n p xs (next_of p xs w).op (next_of p xs w).after)

seeking_few : (n : ℕ) (p : Dashes) (xs : List Segment) (b : Bool) (w : Walk) → length (seeking n p xs b w) ≤ 2 * suc n
unfolding seeking
seeking_few n p xs false w = walking_few n p xs Continue w
seeking_few zero p xs true w = omega arith
seeking_few (suc n) p xs true w = omega (arith, seeking_few n p xs (seeks p (sought p w)) (sought p w))

-- the segments of a dash are at most those of its run written twice
dash_few : (F : Functions) (nib : Nib) (xs : List Segment) (e : DashEvent) → length (dash_actions F nib xs e) ≤ 1 + 110 * length xs
dash_few F nib xs walks.steps = omega arith
dash_few F nib xs (walks.emits r) = omega (arith, length-map (dash_of xs r F nib) draws, dash_bound F nib xs r, ranged_bound xs r)
dash_few F nib xs walks.strokes = omega (arith, length-map (outline true xs F nib) draws, outline_bound F nib true xs)

each_few : {X Y : Type 0} (f : X → List Y) (m : ℕ) → ((x : X) → length (f x) ≤ m) → (xs : List X) → length (flat_map f xs) ≤ length xs * m
each_few f m h [] = omega arith
each_few f m h (x ∷ xs) = simp length-append (omega (arith, h x, each_few f m h xs, suc-mul (length xs) m))

-- the walk takes at most 65,536 steps and one more
walk_few : (F : Functions) (nib : Nib) (p : Dashes) (closed : Bool) (xs : List Segment) → length (flat_map (dash_actions F nib xs) (walk_along p closed xs)) ≤ 131074 * (1 + 110 * length xs)
walk_few F nib p closed [] = omega arith
walk_few F nib p closed (x ∷ xs) =
    let m = 1 + 110 * length (x ∷ xs) in
    let es = walk_along p closed (x ∷ xs) in
    let long : length es ≤ 131074 = seeking_few most_steps p (x ∷ xs) (seeks p (begun p closed)) (begun p closed) in
    omega (arith, each_few (dash_actions F nib (x ∷ xs)) m (dash_few F nib (x ∷ xs)) es, mul-le (length es) m 131074 m long (omega arith))

-- ---- runs

-- a walk's 131074 * 111 for each segment
run_few : (F : Functions) (nib : Nib) (pattern : Option Dashes) (closed : Bool) (xs : List Segment) → length (run_actions F nib pattern closed xs) ≤ 14549214 * length xs
run_few F nib pattern closed [] = omega arith
run_few F nib None closed (x ∷ xs) = omega (arith, length-map (outline closed (x ∷ xs) F nib) draws, outline_bound F nib closed (x ∷ xs))
run_few F nib (Some p) closed (x ∷ xs) = omega (arith, walk_few F nib p closed (x ∷ xs))

ended_few : (now more : List Action) (n k : ℕ) (a b : Action) → length now ≤ 14549214 * n → length more ≤ 14549216 * k → length (a ∷ (now ++ (b ∷ more))) ≤ 14549214 * n + 14549216 * suc k
ended_few now more n k a b h j = simp length-append (omega arith)

one_longer : (xs : List Segment) (x : Segment) → length (xs ++ (x ∷ [])) ≡ suc (length xs)
one_longer xs x = simp length-append (omega arith)

-- of the run that the cursor is in, and of all that is still given
all_few : (F : Functions) (nib : Nib) (pattern : Option Dashes) (xs : List Segment) (es : List drawings.Event) → length (run_by_run F nib pattern xs es) ≤ 14549214 * length xs + 14549216 * length es
unfolding run_by_run
all_few F nib pattern xs [] = omega (arith, run_few F nib pattern false xs)
all_few F nib pattern xs (asks_for q ∷ es) = omega (arith, all_few F nib pattern xs es)
all_few F nib pattern xs (gives (Line i l) ∷ es) = omega (arith, one_longer xs (Line i l), all_few F nib pattern (xs ++ (Line i l ∷ [])) es)
all_few F nib pattern xs (gives (Curve i k) ∷ es) = omega (arith, one_longer xs (Curve i k), all_few F nib pattern (xs ++ (Curve i k ∷ [])) es)
all_few F nib pattern xs (gives (End closed) ∷ es) =
    ended_few (run_actions F nib pattern closed xs) (run_by_run F nib pattern [] es) (length xs) (length es) ends clears (run_few F nib pattern closed xs) (omega (arith, all_few F nib pattern [] es))

-- for each command
pub actions_bound : (F : Functions) (cs : List Command) (style : Stroke) (dashes : List Float) → length (stroke_actions F cs style dashes) ≤ 1 + 305533536 * length cs
actions_bound F cs style dashes = omega (arith, all_few F (nib_of style) (pattern_of dashes style.offset) [] (drawn_whole F true cs), drawing_few F cs)

-- For as many commands as a stroking call takes.
pub actions_few : (F : Functions) (cs : List Command) (style : Stroke) (dashes : List Float) → length cs ≤ 4096 → length (stroke_actions F cs style dashes) < 2 ^ 63
actions_few F cs style dashes h = omega (arith, actions_bound F cs style dashes)
