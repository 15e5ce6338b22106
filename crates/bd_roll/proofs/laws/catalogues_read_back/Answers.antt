use Rattle.bd_model.specs.Sizes.{sizes_of}
use Rattle.bd_roll.proofs.DecodeLemmas.{catalogue_of-spelled, accepted_by}
use Rattle.bd_roll.proofs.Lengths.{length-spelled}
use Rattle.bd_roll.proofs.RuleLemmas.{bounded_of, spellable}
use Rattle.bd_roll.proofs.ReadBack.{read_catalogue-spelled, spelled_same, rest_same}
use Rattle.bd_roll.proofs.laws.catalogues_read_back.Goals as goal

pub returns-clause-fields : goal.returns-clause-fields
returns-clause-fields c = read_catalogue-spelled

pub returns-clause-fit : goal.returns-clause-fit
returns-clause-fit c = λ shape k held. spellable (sizes_of shape) (bounded_of shape) k held

pub returns-clause-room : goal.returns-clause-room
returns-clause-room c = λ shape k held. length-spelled (sizes_of shape) (bounded_of shape) k held

pub returns-clause-back : goal.returns-clause-back
returns-clause-back c = λ shape k held. catalogue_of-spelled (sizes_of shape) (bounded_of shape) k held

pub returns-clause-spelling : goal.returns-clause-spelling
returns-clause-spelling c = λ s bytes k is. (accepted_by s bytes k is).1

pub returns-clause-rules : goal.returns-clause-rules
returns-clause-rules c = λ s bytes k is. (accepted_by s bytes k is).0

pub returns-clause-one : goal.returns-clause-one
returns-clause-one c = λ k d rest others fits_k fits_d same. (spelled_same k d rest others fits_k fits_d same, rest_same k d rest others fits_k fits_d same)
