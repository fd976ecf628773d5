-- Lines as bytes.
use Rattle.std.specs.Prelude.{ℕ, List, [], ◌∷◌, ◌++◌}
use Rattle.std.specs.List.{flat_map}
use Rattle.lines.specs.declared.line.PrintedLine.{PrintedLine}
use Rattle.lines.specs.Text.{line_text}

-- a line and its line break
abbrev pub printed : PrintedLine → List ℕ
printed l = line_text l ++ (10 ∷ [])

-- one after the other
unfoldable pub text_of : List PrintedLine → List ℕ
text_of ls = flat_map printed ls
