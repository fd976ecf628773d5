-- Functions that are asked at f32 alone are so again.
use Rattle.std.specs.Prelude.{◌≡◌, Bool, true, false, cond, refl, Float}
use Rattle.std.specs.Float.{nan, binary32}
use Rattle.std.specs.Float.Ieee.{fits}
use Rattle.maths.specs.declared.host.Function.{Function}
use Rattle.maths.specs.declared.host.Function.TheVariants.{Sine, Cosine, ArcCosine, Tangent, Power}
use Rattle.maths.specs.Functions.{Functions, apply, gathered, restricted}

once_more : (b : Bool) (y z : Float) → cond b (cond b y z) z ≡ cond b y z
once_more true y z = refl
once_more false y z = refl

at : (fs : Functions) (f : Function) (x : Float) → cond (fits binary32 x) (apply (restricted fs) f x) nan ≡ cond (fits binary32 x) (apply fs f x) nan
at fs Sine x = once_more (fits binary32 x) (fs.sine x) nan
at fs Cosine x = once_more (fits binary32 x) (fs.cosine x) nan
at fs ArcCosine x = once_more (fits binary32 x) (fs.arc_cosine x) nan
at fs Tangent x = once_more (fits binary32 x) (fs.tangent x) nan
at fs Power x = once_more (fits binary32 x) (fs.power x) nan

pub again : (fs : Functions) → restricted (restricted fs) ≡ restricted fs
again fs = λ i. gathered (λ f x. at fs f x i)
