-- What is known of an answer that a damage made.
use Rattle.std.proofs.Common.{◌≡◌, List, sym, subst}
use Rattle.std.specs.Prelude.{Result, Ok, Err, IsErrAnd}
use Rattle.bd_model.specs.Roomy.{Roomy}
use Rattle.bd_model.specs.declared.damage.Damage.{Damage}
use Rattle.bd_model.specs.declared.layout.RecipeEntry.{RecipeEntry}
use Rattle.bd_recipe.specs.declared.fault.ReadFault.{ReadFault}
use Rattle.bd_recipe.specs.declared.fault.ReadFault.TheVariants.{DiskFault, Damaged, OutOfMemory}
use Rattle.bd_recipe.specs.Reading.{AnswersRecipe, IfDamaged, OnRead}

pub if_damaged : {T : Type 0} (P : Damage → Type 0) (damage : Damage) (result : Result T ReadFault) → IsErrAnd result (λ e. e ≡ Damaged damage) → P damage → IfDamaged result P
if_damaged P damage (Ok value) is p = absurd is
if_damaged {T} P damage (Err e) is p = subst (λ f. IfDamaged {T = T} (Err f) P) (sym is) p

-- a fault that is passed on, after all was read
pub if_damaged_on : (T : Type 0) {U : Type 0} (P R : Damage → Type 0) (Q : Type 0) (fault : ReadFault) (result : Result U ReadFault) → IsErrAnd result (λ e. e ≡ fault) →
    IfDamaged {T = T} (Err fault) P → OnRead {T = T} (Err fault) Q → ((damage : Damage) → P damage → Q → R damage) → IfDamaged result R
if_damaged_on T P R Q fault (Ok value) is p q step = absurd is
if_damaged_on T {U} P R Q fault (Err e) is p q step = subst (λ f. IfDamaged {T = U} (Err f) R) (sym is) (same fault p q) where
  same : (f : ReadFault) → IfDamaged {T = T} (Err f) P → OnRead {T = T} (Err f) Q → IfDamaged {T = U} (Err f) R
  same DiskFault p q = tt
  same (Damaged damage) p q = step damage p q
  same OutOfMemory p q = tt

-- the answer that is expected, where a fault is passed on
pub answers_on : (P : Damage → Type 0) (expected : Result (List RecipeEntry) Damage) (fault : ReadFault) (result : Result (Roomy RecipeEntry) ReadFault) → IsErrAnd result (λ e. e ≡ fault) →
    IfDamaged {T = Roomy RecipeEntry} (Err fault) P → ((damage : Damage) → P damage → expected ≡ Err damage) → AnswersRecipe expected result
answers_on P expected fault (Ok value) is p step = absurd is
answers_on P expected fault (Err e) is p step = subst (λ f. AnswersRecipe expected (Err f)) (sym is) (same fault p) where
  same : (f : ReadFault) → IfDamaged {T = Roomy RecipeEntry} (Err f) P → AnswersRecipe expected (Err f)
  same DiskFault p = tt
  same (Damaged damage) p = step damage p
  same OutOfMemory p = tt

-- what follows of a damage that is passed on
pub damaged_on : (T : Type 0) {U : Type 0} (P R : Damage → Type 0) (fault : ReadFault) (result : Result U ReadFault) → IsErrAnd result (λ e. e ≡ fault) → IfDamaged {T = T} (Err fault) P → ((damage : Damage) → P damage → R damage) → IfDamaged result R
damaged_on T P R fault (Ok value) is p step = absurd is
damaged_on T {U} P R fault (Err e) is p step = subst (λ f. IfDamaged {T = U} (Err f) R) (sym is) (same fault p) where
  same : (f : ReadFault) → IfDamaged {T = T} (Err f) P → IfDamaged {T = U} (Err f) R
  same DiskFault p = tt
  same (Damaged damage) p = step damage p
  same OutOfMemory p = tt
