-- A curve that is run through the other way has the same legs.
use Rattle.std.proofs.Common.{◌≡◌, ◌+◌, Bool, true, false, refl, ap, arith, leb}
use mir.Val.{bool_byte}
use lib.Ieee.{Float}
use Rattle.numbers.proofs.Differences.{size_turned}
use Rattle.path.specs.declared.geometry.Vector.{Vector}
use Rattle.path.specs.Vectors.{near_by}
use Rattle.curves.specs.declared.curve.Curve.{Curve}
use Rattle.curves.specs.Curves.{once, reversed, two_legs_near}

near_turned : (v w : Vector) (e : Float) → near_by v w e ≡ near_by w v e
near_turned v w e = rw (size_turned v.x w.x, size_turned v.y w.y) refl

near_either_way : (k : Curve) (e : Float) → two_legs_near k e ≡ two_legs_near (reversed k) e
near_either_way k e =
    let ab = once (near_by k.b k.a e) in
    let bc = once (near_by k.c k.b e) in
    let cd = once (near_by k.d k.c e) in
    rw (near_turned k.a k.b e, near_turned k.b k.c e, near_turned k.c k.d e) (ap (leb 2) {x = ab + bc + cd} {y = cd + bc + ab} (omega arith))

flag : (b : Bool) → bool_byte b ≡ once b
flag false = refl
flag true = refl

-- the same for a count of flags
pub count_either_way : (k : Curve) (e : Float) {ab bc cd : Bool} → ab ≡ near_by k.a k.b e → bc ≡ near_by k.b k.c e → cd ≡ near_by k.c k.d e
    → leb 2 (bool_byte ab + bool_byte bc + bool_byte cd) ≡ two_legs_near (reversed k) e
count_either_way k e p q r = rw (p, q, r, flag (near_by k.a k.b e), flag (near_by k.b k.c e), flag (near_by k.c k.d e)) (near_either_way k e)
