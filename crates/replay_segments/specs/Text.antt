-- What is printed of a segment: its letter, the mark of its command and its points, or whether an end is closed.
use Rattle.std.specs.Prelude.{ℕ, cond, List, [], ◌∷◌, ◌++◌, codes, decimal}
use Rattle.path.specs.declared.geometry.Vector.{Vector}
use Rattle.segments.specs.declared.segment.Segment.{Segment}
use Rattle.segments.specs.declared.segment.Segment.TheVariants.{Line, Curve, End}
use Rattle.lines.specs.Text.{bits, spaced}

abbrev pub coordinates : List Vector → List (List ℕ)
coordinates [] = []
coordinates (p ∷ ps) = bits p.x ∷ bits p.y ∷ coordinates ps

abbrev pub segment_text : Segment → List ℕ
segment_text (Line i l) = codes "L" ++ spaced (decimal i.mark ∷ coordinates (l.a ∷ l.b ∷ []))
segment_text (Curve i k) = codes "C" ++ spaced (decimal i.mark ∷ coordinates (k.a ∷ k.b ∷ k.c ∷ k.d ∷ []))
segment_text (End closed) = codes "E" ++ spaced (decimal (cond closed 1 0) ∷ [])
