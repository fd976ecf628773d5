-- Drawing, part by part.
use Rattle.std.proofs.Common.{◌≡◌, ℕ, ◌+◌, ◌<◌, ◌≤◌, length, take, drop, get_or, map, is_ok, Ok, Result, false, cond, List, [], ◌∷◌, ◌++◌, refl, ap, ◌∙◌, sym}
use Rattle.std.proofs.lemmas.List.{take_more, map-append, take-append-drop, take_all}
use Rattle.maths.specs.Questions.{Question, all_asked}
use Rattle.path.specs.declared.command.Command.{Command}
use Rattle.sinks.specs.declared.sink.Refused.{Refused}
use Rattle.maths.specs.Functions.{Functions, HostActs}
use Rattle.pen.specs.declared.nib.Nib.{Nib}
use Rattle.pen.specs.declared.offset.OffsetSegment.{OffsetSegment}
use Rattle.sinks.specs.Meaning.{SinkActs, verdict, after}
use Rattle.stroke.specs.Events.{Event, asks, sends, Plan, ◌⨾◌, commands, by_nib, asked_then_sent, Drawing, Standing, one, go_on, play, draw}

module _ {S K : Type 0} (sinks : SinkActs S) (hosts : HostActs K) where
  play_append : (es fs : List Event) (d : Drawing S K) → play sinks hosts (es ++ fs) d ≡ play sinks hosts fs (play sinks hosts es d)
  unfolding play
  play_append [] fs d = refl
  play_append (e ∷ es) fs d = play_append es fs (go_on sinks hosts e d)

  play_stopped : (es : List Event) (d : Drawing S K) → is_ok d.answer ≡ false → play sinks hosts es d ≡ d
  unfolding play
  play_stopped [] d is = refl
  play_stopped (e ∷ es) d is =
      let same : go_on sinks hosts e d ≡ d = ap (λ b. cond b (one sinks hosts e d) d) is in
      ap (play sinks hosts es) same ∙ play_stopped es d is

  -- one part and then another
  pub draw_next : (E E' : Plan) (d : Standing S K) → draw sinks hosts (E ⨾ E') d ≡ draw sinks hosts E' (draw sinks hosts E d)
  unfolding draw
  draw_next E E' d = ap (λ (x : Drawing S K). record d { drawing = x }) (play_append (E d.functions d.nib) (E' d.functions d.nib) d.drawing)

  -- a drawing that has stopped stays as it is
  pub draw_stopped : (E : Plan) (d : Standing S K) → is_ok d.drawing.answer ≡ false → draw sinks hosts E d ≡ d
  unfolding draw
  draw_stopped E d is = ap (λ (x : Drawing S K). record d { drawing = x }) (play_stopped (E d.functions d.nib) d.drawing is)

  pub draw_none : (d : Standing S K) → draw sinks hosts (commands []) d ≡ d
  unfolding draw play
  draw_none d = refl

  pub draw_by_nib : (E : Nib → Plan) (d : Standing S K) → draw sinks hosts (by_nib E) d ≡ draw sinks hosts (E d.nib) d
  unfolding draw
  draw_by_nib E d = refl

  -- the nib stays
  pub draw_nib : (E : Plan) (d : Standing S K) → (draw sinks hosts E d).nib ≡ d.nib
  unfolding draw
  draw_nib E d = refl

  -- one command
  pub draw_send : (c : Command) (d : Standing S K) → d.drawing.answer ≡ Ok tt
      → draw sinks hosts (commands (c ∷ [])) d ≡ record d { drawing = record d.drawing { sink = after sinks d.drawing.sink c; answer = verdict (sinks.meaning d.drawing.sink) c } }
  unfolding draw play
  draw_send c d is = ap (λ (r : Result (Unit {0}) Refused). record d { drawing = cond (is_ok r) (one sinks hosts (sends c) d.drawing) d.drawing }) is

  -- commands in a row: one more, as far as a refusal, and all
  pub draw_more : (xs : List Command) (i : ℕ) (c : Command) (d : Standing S K) → i < length xs
      → draw sinks hosts (commands (take (i + 1) xs)) d ≡ draw sinks hosts (commands (get_or xs i c ∷ [])) (draw sinks hosts (commands (take i xs)) d)
  draw_more xs i c d room =
      ap (λ (E : Plan). draw sinks hosts E d) (λ j F nib. (ap (map sends) (take_more xs i c room) ∙ map-append sends (take i xs) (get_or xs i c ∷ [])) j)
      ∙ draw_next (commands (take i xs)) (commands (get_or xs i c ∷ [])) d

  pub draw_part : (xs : List Command) (i : ℕ) (d : Standing S K) → is_ok (draw sinks hosts (commands (take i xs)) d).drawing.answer ≡ false
      → draw sinks hosts (commands xs) d ≡ draw sinks hosts (commands (take i xs)) d
  draw_part xs i d is =
      ap (λ (E : Plan). draw sinks hosts E d) (λ j F nib. (ap (map sends) (sym (take-append-drop i xs)) ∙ map-append sends (take i xs) (drop i xs)) j)
      ∙ draw_next (commands (take i xs)) (commands (drop i xs)) d
      ∙ draw_stopped (commands (drop i xs)) _ is

  pub draw_whole : (xs : List Command) (i : ℕ) (d : Standing S K) → length xs ≤ i → draw sinks hosts (commands (take i xs)) d ≡ draw sinks hosts (commands xs) d
  draw_whole xs i d past = ap (λ ys. draw sinks hosts (commands ys) d) (take_all i xs past)

  play_asks : (qs : List Question) (d : Drawing S K) → d.answer ≡ Ok tt → play sinks hosts (map asks qs) d ≡ record d { host = all_asked hosts.asked d.host qs }
  unfolding play
  play_asks [] d is = refl
  play_asks (q ∷ qs) d is =
      ap (λ (r : Result (Unit {0}) Refused). play sinks hosts (map asks qs) (cond (is_ok r) (one sinks hosts (asks q) d) d)) is ∙ play_asks qs (one sinks hosts (asks q) d) is

  -- questions asked, and then commands sent
  pub draw_asked : (qs : Functions → Nib → List Question) (cs : Functions → Nib → List Command) (d : Standing S K) → d.drawing.answer ≡ Ok tt
      → draw sinks hosts (asked_then_sent qs cs) d
      ≡ draw sinks hosts (commands (cs d.functions d.nib)) (record d { drawing = record d.drawing { host = all_asked hosts.asked d.drawing.host (qs d.functions d.nib) } })
  unfolding draw
  draw_asked qs cs d is =
      ap (λ (x : Drawing S K). record d { drawing = x })
      (play_append (map asks (qs d.functions d.nib)) (map sends (cs d.functions d.nib)) d.drawing
      ∙ ap (play sinks hosts (map sends (cs d.functions d.nib))) (play_asks (qs d.functions d.nib) d.drawing is))

  -- a part drawn and then what is left, and a part that was refused
  pub and_then : (E E' : Plan) (d : Standing S K) {e r : Standing S K} → e ≡ draw sinks hosts E d → r ≡ draw sinks hosts E' e → r ≡ draw sinks hosts (E ⨾ E') d
  and_then E E' d first rest = rest ∙ ap (draw sinks hosts E') first ∙ sym (draw_next E E' d)

  pub no_more : (E E' : Plan) (d : Standing S K) {e : Standing S K} → is_ok e.drawing.answer ≡ false → e ≡ draw sinks hosts E d → e ≡ draw sinks hosts (E ⨾ E') d
  no_more E E' d {e = e} refused first = and_then E E' d first (sym (draw_stopped E' e refused))

  -- a part that goes by a side, which goes by the nib
  pub by_last : (E : OffsetSegment → Plan) (last : Nib → OffsetSegment) (d : Standing S K) {o : OffsetSegment} {e : Standing S K}
      → o ≡ last d.nib → e ≡ draw sinks hosts (E o) d → e ≡ draw sinks hosts (by_nib (λ nib. E (last nib))) d
  by_last E last d is drawn = drawn ∙ ap (λ p. draw sinks hosts (E p) d) is ∙ sym (draw_by_nib (λ nib. E (last nib)) d)

-- what a few parts come to
pub ruleset drawing = (draw_next, draw_stopped, draw_by_nib, draw_none)

-- and a row of commands
pub ruleset sending = (draw_more, draw_part, draw_whole, draw_none)
