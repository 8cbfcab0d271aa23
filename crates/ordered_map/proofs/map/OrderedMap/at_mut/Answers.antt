use Rattle.std.proofs.Common.{◌-◌, ◌∙◌, ap, refl, vec_capacity, vec_len, arith}
use Rattle.std.proofs.lemmas.Option.{slice_get-map}
use Rattle.indexmap.specs.IndexMap.{spare}
use Rattle.indexmap.specs.Layout.{length-set_value_at}
use Rattle.ordered_map.specs.Layout.{room_of}
use Rattle.ordered_map.proofs.PlaceViews.{entry_here, write_seen, write_stored}
use Rattle.ordered_map.proofs.MapViews.{value_at}
use Rattle.ordered_map.proofs.map.OrderedMap.at_mut.Goals as goal

pub invariant_of-self-lent : goal.invariant_of-self-lent
invariant_of-self-lent g c w =
    let own = c.self.inside in
    let here = entry_here _ _ c.self.invariant.stored c.args.self.now (ap (λ m. m.by_position) c.self.view_is) c.args.position _ (c.in-Some.ensures.value ∙ slice_get-map (λ e. e.1) own.entries.entries c.args.position) in record {
      stored = write_stored _ _ c.self.invariant.stored c.args.position here.0 _ here.1 _ refl;
      free = λ some. c.self.invariant.free (omega (arith, length-set_value_at own.entries.entries c.args.position (record { place = c.in-Some.placed.now.place; value = w }), some));
    }

pub returns-in-Some : goal.returns-in-Some
returns-in-Some g c =
    let own = c.self.inside in
    let found = c.in-Some.ensures.value ∙ slice_get-map (λ e. e.1) own.entries.entries c.args.position in (
      (
        refl,
        λ w. write_seen _ _ c.self.invariant.stored c.args.self.now (ap (λ m. m.by_position) c.self.view_is) c.args.position _ found w _ refl (ap (λ m. m.hasher) c.self.view_is)
            (ap (room_of (spare own.entries) (vec_capacity own.order - vec_len own.order)) (length-set_value_at own.entries.entries c.args.position _) ∙ ap (λ m. m.room) c.self.view_is),
        refl,
      ),
      record { writes_back = tt; value = value_at own.entries.entries c.args.position _ c.args.self.now c.in-Some.ensures.value (ap (λ m. m.by_position) c.self.view_is) },
    )

pub returns-in-None : goal.returns-in-None
returns-in-None g c = ((refl, λ w. tt, c.self.view_is), record { writes_back = tt; value = value_at c.self.inside.entries.entries c.args.position _ c.args.self.now c.in-None.ensures.value (ap (λ m. m.by_position) c.self.view_is) })
