-- What a maths host answers.
use Rattle.std.specs.Prelude.{◌≡◌, ℕ, Bool, if◌then◌else◌, ◌&&◌, ◌||◌, T, List, codes, from_bits, is_nan, Float}
use Rattle.std.specs.Float.{nan, binary32}
use Rattle.std.specs.Float.Ieee.{le, fits}
use Rattle.maths.specs.declared.host.Function.{Function}
use Rattle.maths.specs.declared.host.Function.TheVariants.{Sine, Cosine, ArcCosine, Tangent, Power}

pub record Functions : Type 0 where
  pub sine : Float → Float
  pub cosine : Float → Float
  pub arc_cosine : Float → Float
  pub tangent : Float → Float
  pub power : Float → Float

abbrev pub apply : Functions → Function → Float → Float
apply fs Sine x = fs.sine x
apply fs Cosine x = fs.cosine x
apply fs ArcCosine x = fs.arc_cosine x
apply fs Tangent x = fs.tangent x
apply fs Power x = fs.power x

-- What a host does: the functions that it answers by, and the whole host after a question.
pub record HostActs (K : Type 0) : Type 0 where
  pub functions : K → Functions
  pub asked : K → Function → Float → K

-- a host that is nothing but its functions
abbrev pub no_host : Functions → HostActs (Unit {0})
no_host F = record { functions = λ k. F; asked = λ k f x. k }

-- the five functions of one that takes the function's name
abbrev pub gathered : (Function → Float → Float) → Functions
gathered g = record { sine = g Sine; cosine = g Cosine; arc_cosine = g ArcCosine; tangent = g Tangent; power = g Power }

abbrev pub numbered : Function → ℕ
numbered Sine = 1
numbered Cosine = 2
numbered ArcCosine = 3
numbered Tangent = 4
numbered Power = 5

abbrev pub function_name : Function → List ℕ
function_name Sine = codes "sine"
function_name Cosine = codes "cosine"
function_name ArcCosine = codes "arc cosine"
function_name Tangent = codes "tangent"
function_name Power = codes "power"

-- from 0 to 3.1415927
abbrev pub in_range : Float → Bool
in_range y = le (from_bits binary32 0) y && le y (from_bits binary32 0x4049_0fdb)

-- what an arc cosine may be
abbrev pub Angle : Float → Type 0
Angle y = T (is_nan y || in_range y)

-- answers alike on every f32
abbrev pub Alike : Functions → Functions → Type 0
Alike fs gs = (f : Function) (x : Float) → T (fits binary32 x) → apply fs f x ≡ apply gs f x

-- asked only at f32, which is all that a program can ask
abbrev pub restricted : Functions → Functions
restricted fs = gathered (λ f x. if fits binary32 x then apply fs f x else nan)

abbrev pub AlikeAreEqual : Type 0
AlikeAreEqual = (fs gs : Functions) → Alike fs gs → restricted fs ≡ restricted gs
