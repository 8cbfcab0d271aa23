use Rattle.std.proofs.Common.{◌∙◌, ◌++◌, ◌∷◌, [], ap, append_assoc, sym}
use Rattle.std.specs.Vec.Iter.{into_iter_items}
use Rattle.cookie_parts.specs.Cookie.{Row}
use Rattle.cookie_serde.specs.Selections.{built_from}
use Rattle.cookie_serde.proofs.whole_text.rows_of.Goals as goal

pub loop-cookie-preserved : goal.loop-cookie-preserved
loop-cookie-preserved c =
    let l = c.loop-cookie in
    record {
      can = tt;
      ends = tt;
      built = c.in_ok-take.ensures.taken l.yielded l.invariant.built
          ∙ ap (λ (row : Row). built_from c.args.which (l.yielded ++ row ∷ [])) c.in_ok-cookie.ensures;
      all = append_assoc l.yielded (c.in-Some.cookie ∷ []) (into_iter_items c.next.new.self)
          ∙ ap (λ rest. l.yielded ++ rest) (sym c.in-Some.ensures.steps.0) ∙ l.invariant.all;
    }
