use Rattle.bd_category.proofs.ReadingBack.{header-found, body-found, records-read}
use Rattle.bd_category.proofs.laws.records_read_back.Goals as goal

pub returns-clause-header : goal.returns-clause-header
returns-clause-header c = λ s who m body owner at end fits inside. header-found s m body owner at end fits inside who

pub returns-clause-body : goal.returns-clause-body
returns-clause-body c = body-found

pub returns-clause-all : goal.returns-clause-all
returns-clause-all c = records-read
