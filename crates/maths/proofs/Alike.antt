-- Hosts that answer alike on every f32 are equal where only f32 are asked.
use Rattle.std.proofs.Common.{◌≡◌, Bool, true, false, cond, T, refl, sym}
use lib.Ieee.{Float, nan, binary32, fits}
use Rattle.maths.specs.declared.host.Function.{Function}
use Rattle.maths.specs.declared.host.Function.TheVariants.{Sine, Cosine, ArcCosine, Tangent, Power}
use Rattle.maths.specs.Functions.{Functions, apply, gathered, restricted, AlikeAreEqual}

where_asked : (b : Bool) (y z : Float) → (T b → y ≡ z) → cond b y nan ≡ cond b z nan
where_asked true y z h = h tt
where_asked false y z h = refl

taken : (b : Bool) (y : Float) → T b → cond b y nan ≡ y
taken true y h = refl
taken false y h = absurd h

pub alike_are_equal : AlikeAreEqual
alike_are_equal fs gs alike =
    let at : (f : Function) (x : Float) → cond (fits binary32 x) (apply fs f x) nan ≡ cond (fits binary32 x) (apply gs f x) nan = λ f x. where_asked (fits binary32 x) _ _ (alike f x) in
    λ i. gathered (λ f x. at f x i)

-- a program asks at f32 alone
pub asked_within : (fs : Functions) (f : Function) (x : Float) → T (fits binary32 x) → apply fs f x ≡ apply (restricted fs) f x
asked_within fs Sine x h = sym (taken (fits binary32 x) _ h)
asked_within fs Cosine x h = sym (taken (fits binary32 x) _ h)
asked_within fs ArcCosine x h = sym (taken (fits binary32 x) _ h)
asked_within fs Tangent x h = sym (taken (fits binary32 x) _ h)
asked_within fs Power x h = sym (taken (fits binary32 x) _ h)
