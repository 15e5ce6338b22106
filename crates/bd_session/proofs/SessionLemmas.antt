-- All that is promised of a list follows from its turns.
use Rattle.bd_store.specs.Attempts.{Scene}
use Rattle.bd_session.specs.Course.{Course}
use Rattle.bd_session.specs.Session.{MeetsSession}
use Rattle.bd_session.specs.Turns.{Goes}
use Rattle.bd_session.proofs.Honestly.{meets_honestly}
use Rattle.bd_session.proofs.HandedLemmas.{hands_answers}
use Rattle.bd_session.proofs.Finished.{stays_finished}
use Rattle.bd_session.proofs.Kept.{by_commands, clocks_rise, keeps_others, met_by, strays_only}
use Rattle.bd_session.proofs.StopLemmas.{catalogues_stay, still_rests}
use Rattle.bd_session.proofs.AnsweredLemmas.{IsOpen, by_count, bytes_stay, keeps_store}

pub meets_session : {disk files sink : Type 0} {c : Course} {before now : Scene} → IsOpen disk before → Goes disk files sink c before now → MeetsSession disk files sink c before now
meets_session opened goes = record {
  bytes = bytes_stay goes;
  cause = by_count goes;
  met = met_by goes;
  store = keeps_store opened goes;
  clocks = clocks_rise goes;
  written = hands_answers goes;
  others = keeps_others goes;
  strays = strays_only goes;
  finished = stays_finished goes;
  writes = by_commands goes;
  goes = goes;
  catalogues = λ told sure. catalogues_stay told goes opened sure;
  rests = λ told. record { each = λ turns says. still_rests told turns says };
  honestly = meets_honestly opened goes;
}
