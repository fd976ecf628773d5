-- What is read from a reader's known bytes, and what is written after a writer's.
use Rattle.std.specs.Prelude.{◌≡◌, ◌<◌, ◌≤◌, ℕ, List, ◌++◌, length, MatchResult, Option, Result}
use Rattle.std.specs.Io.KnownBytes.{Appends, Consumes, IsAtEnd}

-- known bytes begin with bs and lose them: so many, or fewer where there are no more
pub record Begins (old new : Option (List ℕ)) (most : ℕ) (bs : List ℕ) : Type 0 where
  pub consumed : Consumes old new bs
  pub few : length bs ≤ most
  pub all : length bs < most → IsAtEnd new

-- known bytes grow by a front of a text
pub record GrowsByFront (old new : Option (List ℕ)) (text : List ℕ) : Type 0 where
  pub front : List ℕ
  pub rest : List ℕ
  pub whole : text ≡ front ++ rest
  pub grown : Appends old new front

-- known bytes grow by a text, or, where that fails, by a front of it
abbrev pub Writes : {E : Type 0} → Option (List ℕ) → Option (List ℕ) → Result (Unit {0}) E → List ℕ → Type 0
Writes old new r text = MatchResult r (λ _. Appends old new text) (λ _. GrowsByFront old new text)
