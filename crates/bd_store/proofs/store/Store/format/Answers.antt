use Rattle.std.proofs.Common.{arith, ap, refl}
use Rattle.std.proofs.lemmas.Bool.{ltb-false}
use Rattle.bd_catalog.specs.Opening.{Found}
use Rattle.bd_store.proofs.EmptyStore.{format_stops, formatted_stands}
use Rattle.bd_store.proofs.store.Store.format.Goals as goal

pub returns-in_err-catalog-clause-stops : goal.returns-in_err-catalog-clause-stops
returns-in_err-catalog-clause-stops g c = λ told none settled. format_stops c.args.shape (c.format.ensures.stops told none settled)

pub returns-clause-stops : goal.returns-clause-stops
returns-clause-stops g c = λ told none settled. format_stops c.args.shape (c.format.ensures.stops told none settled)

pub returns-clause-made : goal.returns-clause-made
returns-clause-made g c = record {
  room = omega (arith, ltb-false _ _ c.in_ok-catalog.ensures.answer.size, c.in_ok-catalog.ensures.disk.bytes);
  sizes = ap (λ (f : Found). f.sizes) c.in_ok-catalog.ensures.made;
  held = c.in_ok-catalog.ensures.space.held;
  worn = refl;
  stands = λ told. formatted_stands c.args.shape _ c.in_ok-catalog.field-0.catalog.found (c.in_ok-catalog.ensures.rests told).agrees.opens c.in_ok-catalog.ensures.made;
  rests = c.in_ok-catalog.ensures.rests;
}
