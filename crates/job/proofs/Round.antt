-- What is spelled is read back.
use Rattle.std.proofs.Common.{◌≡◌, ℕ, ◌+◌, ◌*◌, ◌/◌, ◌%◌, ◌^◌, ◌<◌, ◌≤◌, T, List, ◌∷◌, ◌++◌, map, length, Some, Ok, sym, refl, ap, ◌∙◌, mod-eq_of_lt, div-add-mod', arith}
use native.Mathlib.Nat.{div-div-eq-div-mul}
use lib.Ieee.{Float, binary32, of_bits, to_bits, fits}
use lib.Ieee.Bits.{of_bits-to_bits, to_bits-lt}
use Rattle.std.proofs.lemmas.Bool.{le-leb}
use Rattle.path.specs.declared.geometry.Vector.{Vector}
use Rattle.path.specs.declared.command.Command.TheVariants.{MoveTo, LineTo, CurveTo, QuadTo, Close}
use Rattle.path.specs.declared.style.Join.{Join as Join'}
use Rattle.path.specs.declared.style.Join.TheVariants as join
use Rattle.path.specs.declared.style.Join.TheVariants.{Bevel, Miter}
use Rattle.path.specs.declared.style.Cap.{Cap}
use Rattle.path.specs.declared.style.Cap.TheVariants as cap-is
use Rattle.path.specs.declared.style.Cap.TheVariants.{Butt, Square}
use Rattle.path.specs.Styles.{joins, caps, join_number, cap_number}
use Rattle.job.specs.declared.item.Item.{Item}
use Rattle.job.specs.declared.item.Item.TheVariants.{Width, Join, MiterLimit, StartCap, EndCap, Offset, Dash, Path}
use Rattle.job.specs.Spelling.{Fitting, float, spelled}
use Rattle.job.specs.Reading.{Shape, number, choice, one_point, two_points, three_points, nothing, size, made, float_at, point_at, asked, found, first}

-- four digits to the base 256
digits_back : (n a b c d₀ d₁ d₂ d₃ : ℕ) → a * 256 + d₀ ≡ n → b * 256 + d₁ ≡ a → c * 256 + d₂ ≡ b → d₃ ≡ c → d₃ * 16777216 + d₂ * 65536 + d₁ * 256 + d₀ ≡ n
digits_back n a b c d₀ d₁ d₂ d₃ e₀ e₁ e₂ e₃ = omega arith

word_back : (n : ℕ) → n < 2 ^ 32 → n / 16777216 % 256 * 16777216 + n / 65536 % 256 * 65536 + n / 256 % 256 * 256 + n % 256 ≡ n
word_back n h =
    let high : n / 16777216 < 256 = omega arith in
    digits_back n (n / 256) (n / 65536) (n / 16777216) _ _ _ _ (div-add-mod' n 256)
    (ap (λ q. q * 256 + n / 256 % 256) (sym (div-div-eq-div-mul n 256 256)) ∙ div-add-mod' (n / 256) 256)
    (ap (λ q. q * 256 + n / 65536 % 256) (sym (div-div-eq-div-mul n 65536 256)) ∙ div-add-mod' (n / 65536) 256)
    (mod-eq_of_lt high)

float_back : (x : Float) (rest : List ℕ) → T (fits binary32 x) → float_at (float x ++ rest) 0 ≡ x
float_back x rest h = ap (of_bits binary32) (word_back (to_bits binary32 x) (to_bits-lt binary32 x h)) ∙ of_bits-to_bits binary32 x h

abbrev point_bytes : Vector → List ℕ → List ℕ
point_bytes p rest = float p.x ++ (float p.y ++ rest)

same_point : {x x' y y' : Float} → x' ≡ x → y' ≡ y → ◌≡◌ {A = Vector} (record { x = x'; y = y' }) (record { x = x; y = y })
same_point ex ey = cc

point_back : (p : Vector) (rest : List ℕ) → T (fits binary32 p.x) → T (fits binary32 p.y) → point_at (point_bytes p rest) 0 ≡ p
point_back p rest hx hy = same_point (float_back p.x (float p.y ++ rest) hx) (float_back p.y rest hy)

-- operands that are all there are read by their shape
read_back : (s : Shape) (bytes : List ℕ) (i : Item) → size s ≤ length bytes → made s bytes ≡ Some i → found (asked (Some (size s)) bytes (made s bytes)) ≡ Ok (Some (i, 1 + size s))
read_back s bytes i enough is = rw (le-leb (size s) (length bytes) enough, is)

number_back : (f : Float → Item) (x : Float) (rest : List ℕ) → T (fits binary32 x) → found (asked (Some 4) (float x ++ rest) (made (number f) (float x ++ rest))) ≡ Ok (Some (f x, 5))
number_back f x rest h = read_back (number f) (float x ++ rest) (f x) (omega arith) (ap (λ y. Some (f y)) (float_back x rest h))

point_read : (f : Vector → Item) (p : Vector) (rest : List ℕ) → T (fits binary32 p.x) → T (fits binary32 p.y) → found (asked (Some 8) (point_bytes p rest) (made (one_point f) (point_bytes p rest))) ≡ Ok (Some (f p, 9))
point_read f p rest hx hy = read_back (one_point f) (point_bytes p rest) (f p) (omega arith) (ap (λ q. Some (f q)) (point_back p rest hx hy))

same_quad : {a a' p p' : Vector} → a' ≡ a → p' ≡ p → Some (Path (QuadTo a' p')) ≡ Some (Path (QuadTo a p))
same_quad ea ep = cc

same_curve : {a a' b b' p p' : Vector} → a' ≡ a → b' ≡ b → p' ≡ p → Some (Path (CurveTo a' b' p')) ≡ Some (Path (CurveTo a b p))
same_curve ea eb ep = cc

join_back : (j : Join') (rest : List ℕ) → made (choice (map Join joins)) (join_number j ∷ rest) ≡ Some (Join j)
join_back Bevel rest = refl
join_back Miter rest = refl
join_back join.Round rest = refl

cap_back : (f : Cap → Item) (k : Cap) (rest : List ℕ) → made (choice (map f caps)) (cap_number k ∷ rest) ≡ Some (f k)
cap_back f Butt rest = refl
cap_back f Square rest = refl
cap_back f cap-is.Round rest = refl

pub read_first : (i : Item) (rest : List ℕ) → Fitting i → first (spelled i ++ rest) ≡ Ok (Some (i, length (spelled i)))
read_first (Width x) rest h = number_back Width x rest h
read_first (Join j) rest h = read_back (choice (map Join joins)) (join_number j ∷ rest) (Join j) (omega arith) (join_back j rest)
read_first (MiterLimit x) rest h = number_back MiterLimit x rest h
read_first (StartCap k) rest h = read_back (choice (map StartCap caps)) (cap_number k ∷ rest) (StartCap k) (omega arith) (cap_back StartCap k rest)
read_first (EndCap k) rest h = read_back (choice (map EndCap caps)) (cap_number k ∷ rest) (EndCap k) (omega arith) (cap_back EndCap k rest)
read_first (Offset x) rest h = number_back Offset x rest h
read_first (Dash x) rest h = number_back Dash x rest h
read_first (Path (MoveTo p)) rest h = point_read (λ q. Path (MoveTo q)) p rest h.0 h.1.0
read_first (Path (LineTo p)) rest h = point_read (λ q. Path (LineTo q)) p rest h.0 h.1.0
read_first (Path (CurveTo a b p)) rest h =
    read_back (three_points (λ a b p. Path (CurveTo a b p))) (point_bytes a (point_bytes b (point_bytes p rest))) (Path (CurveTo a b p)) (omega arith)
    (same_curve (point_back a (point_bytes b (point_bytes p rest)) h.0 h.1.0) (point_back b (point_bytes p rest) h.1.1.0 h.1.1.1.0)
    (point_back p rest h.1.1.1.1.0 h.1.1.1.1.1.0))
read_first (Path (QuadTo a p)) rest h =
    read_back (two_points (λ a p. Path (QuadTo a p))) (point_bytes a (point_bytes p rest)) (Path (QuadTo a p)) (omega arith)
    (same_quad (point_back a (point_bytes p rest) h.0 h.1.0) (point_back p rest h.1.1.0 h.1.1.1.0))
read_first (Path Close) rest h = read_back (nothing (Path Close)) rest (Path Close) (omega arith) refl
