-- Choosing by a test, and what the answer of two tests tells of each. Every rule of document 01 that says "if" is a `pick`.
use Rattle.std.specs.Prelude.{◌≡◌, refl, Bool, true, false, ◌&&◌}
use Rattle.std.proofs.Common.{sym, ◌∙◌}
use Rattle.std.proofs.lemmas.Bool.{false≢true}

-- the first where the test holds, else the second
abbrev pub pick : {A : Type 0} → Bool → A → A → A
pick true a b = a
pick false a b = b

-- what is done after the choice may be done before it
pub pick_after : {A B : Type 0} (f : A → B) (t : Bool) (a b : A) → f (pick t a b) ≡ pick t (f a) (f b)
pick_after f true a b = refl
pick_after f false a b = refl

-- a choice between equals is no choice
pub pick_same : {A : Type 0} (t : Bool) (a : A) → pick t a a ≡ a
pick_same true a = refl
pick_same false a = refl

-- both facts hold, so the fact holds of the choice
pub pick_holds : {A : Type 0} (P : A → Type 0) (t : Bool) (a b : A) → (t ≡ true → P a) → (t ≡ false → P b) → P (pick t a b)
pick_holds P true a b f g = f refl
pick_holds P false a b f g = g refl

-- what a call's answer tells of the definition it equals
pub told : {x b : Bool} → x ≡ b → x ≡ true → b ≡ true
told e t = sym e ∙ t

-- both tests hold where the second is asked only after the first
pub both : (b x : Bool) → pick b x false ≡ true → (b ≡ true) × (x ≡ true)
both true x e = (refl, e)
both false x e = absurd (false≢true e)

pub both_hold : {b x : Bool} → b ≡ true → x ≡ true → pick b x false ≡ true
both_hold {b} {x} p q = rw (p, q)

-- the same where the two are joined by "and"
pub both_joined : (a b : Bool) → (a && b) ≡ true → (a ≡ true) × (b ≡ true)
both_joined true b e = (refl, e)
both_joined false b e = absurd (false≢true e)

-- a test that must fail first
pub passed : (b x : Bool) → pick b false x ≡ true → (b ≡ false) × (x ≡ true)
passed true x e = absurd (false≢true e)
passed false x e = (refl, e)

-- the second of two tests is the answer where the first holds
pub and_on : {x b y : Bool} (z : Bool) → x ≡ b → x ≡ true → y ≡ z → y ≡ pick b z false
and_on z p t e = rw (← p, t) e

pub and_off : {x b : Bool} (z : Bool) → x ≡ b → x ≡ false → false ≡ pick b z false
and_off z p t = rw (← p, t)
