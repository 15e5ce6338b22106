-- What contracts see of files and of a sink in memory.
use Rattle.std.specs.Prelude.{◌≡◌, ◌⊎◌, ◌+◌, ℕ, List, [], Option, Some, None, Result, OnOk, OnErr, refl}
use Rattle.std.specs.Coded.{Coded, code_by, coded_ℕ, coded_list, coded_option, coded×}
use Rattle.std.specs.FinMap as map
use Rattle.bd_model.specs.FileMap.{FileMap}
use Rattle.bd_disk.specs.Calls.{one_more}
use Rattle.bd_files.specs.Sinks.{Handed}
use Rattle.bd_files.specs.Table.{coded_files}

-- how many calls of a kind were made, the one that is set to fail, and how many failed
pub record CallCount : Type 0 where
  pub made : ℕ
  pub failing : Option ℕ
  pub faults : ℕ

-- none was made, and none is set to fail
abbrev pub no_call : CallCount
no_call = record { made = 0; failing = None; faults = 0 }

-- the next one is set to fail
abbrev pub FailsNext : CallCount → Type 0
FailsNext calls = calls.failing ≡ Some calls.made

-- one call more, and one fault more where it failed
pub record CountsOneCall {T E : Type 0} (old new : CallCount) (result : Result T E) : Type 0 where
  pub made : new.made ≡ one_more old.made
  pub failing : new.failing ≡ old.failing
  pub ok : OnOk result (new.faults ≡ old.faults)
  pub err : OnErr result (new.faults ≡ one_more old.faults)

-- how often no room was given: it goes on by one or stays, and stays where the call was set to fail or answered Ok
pub record CountsRefused {T E : Type 0} (calls : CallCount) (old new : ℕ) (result : Result T E) : Type 0 where
  pub later : (new ≡ old) ⊎ (new ≡ old + 1)
  pub set : FailsNext calls → new ≡ old
  pub ok : OnOk result (new ≡ old)

-- what was handed on, by which calls, and how often no room was given
pub record SinkState : Type 0 where
  pub handed : List Handed
  pub puts : CallCount
  pub refused : ℕ

-- nothing was handed on, and no fault is to come
abbrev pub empty_sink : SinkState
empty_sink = record { handed = []; puts = no_call; refused = 0 }

-- what is under each name, which are unfinished, by which calls, how often a name was missing, and how often no room was given
pub record FilesState : Type 0 where
  pub files : FileMap
  pub unfinished : List (List ℕ)
  pub fetches : CallCount
  pub targets : CallCount
  pub strays : ℕ
  pub refused : ℕ

-- there is no file, and no fault is to come
abbrev pub no_files : FilesState
no_files = record { files = map.empty; unfinished = []; fetches = no_call; targets = no_call; strays = 0; refused = 0 }

-- these are told apart by their fields
abbrev pub coded_handed : Coded (List Handed)
coded_handed = coded_list (code_by (Option ℕ × List ℕ) (coded× (coded_option coded_ℕ) (coded_list coded_ℕ)) (λ h. (h.moment, h.bytes)) (λ p. record { moment = p.0; bytes = p.1 }) (λ h. refl))

abbrev pub coded_calls : Coded CallCount
coded_calls = code_by (ℕ × (Option ℕ × ℕ)) (coded× coded_ℕ (coded× (coded_option coded_ℕ) coded_ℕ)) (λ c. (c.made, (c.failing, c.faults))) (λ p. record { made = p.0; failing = p.1.0; faults = p.1.1 }) (λ c. refl)

abbrev pub coded_state : Coded FilesState
coded_state =
    code_by (FileMap × (List (List ℕ) × (CallCount × (CallCount × (ℕ × ℕ))))) (coded× coded_files (coded× (coded_list (coded_list coded_ℕ)) (coded× coded_calls (coded× coded_calls (coded× coded_ℕ coded_ℕ)))))
    (λ s. (s.files, (s.unfinished, (s.fetches, (s.targets, (s.strays, s.refused))))))
    (λ p. record { files = p.0; unfinished = p.1.0; fetches = p.1.1.0; targets = p.1.1.1.0; strays = p.1.1.1.1.0; refused = p.1.1.1.1.1 }) (λ s. refl)
