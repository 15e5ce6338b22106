-- Files of the system and standard output, as contracts see them.
use Rattle.std.specs.Prelude.{◌≡◌, ◌≢◌, ℕ, ◌+◌, ◌-◌, ◌^◌, min, List, [], ◌∷◌, ◌++◌, Contains, Option, None, Some, Result, IfOk, OnOk, OnErr}
use Rattle.bd_disk.specs.Calls.{one_more}
use Rattle.bd_files.specs.declared.identity.FileIdentity.{FileIdentity}

-- how often a fetch failed, and one of the other calls, and the file that is no target
pub record OutsideOfFiles : Type 0 where
  pub sources : ℕ
  pub targets : ℕ
  pub spared : Option FileIdentity

-- a count of calls that failed: it goes on by one where this one did, up to 2^64 - 1, and else stays
pub record CountsFailed {T E : Type 0} (old new : ℕ) (result : Result T E) : Type 0 where
  pub ok : OnOk result (new ≡ old)
  pub failed : OnErr result (new ≡ one_more old)

-- the counts of sources, of targets
pub record FailsAsSource {T E : Type 0} (old new : OutsideOfFiles) (result : Result T E) : Type 0 where
  pub sources : CountsFailed old.sources new.sources result
  pub rest : new ≡ record old { sources = new.sources }

pub record FailsAsTarget {T E : Type 0} (old new : OutsideOfFiles) (result : Result T E) : Type 0 where
  pub targets : CountsFailed old.targets new.targets result
  pub rest : new ≡ record old { targets = new.targets }

-- the target isn't the spared file
pub record SparesItsFile (spared target : Option FileIdentity) : Type 0 where
  pub apart : (file : FileIdentity) → target ≡ Some file → spared ≢ Some file

-- a read of a source: one that is read forward gives bytes at its next place alone, which stands behind them then
pub record ReadsOn {E : Type 0} (old new : Option ℕ) (at : ℕ) (result : Result ℕ E) : Type 0 where
  pub any : old ≡ None → new ≡ None
  pub next : (place : ℕ) → old ≡ Some place → IfOk result (λ count. (place ≡ at) × (new ≡ Some (min (at + count) (2 ^ 64 - 1))))
  pub failed : OnErr result (new ≡ old)

-- a source is at its beginning: it wasn't before, and never is again
pub record Spends {T E : Type 0} (old new : List FileIdentity) (source : FileIdentity) (result : Result T E) : Type 0 where
  pub first : OnOk result (¬ Contains old source)
  pub ok : OnOk result (new ≡ old ++ (source ∷ []))
  pub failed : OnErr result (new ≡ old)
