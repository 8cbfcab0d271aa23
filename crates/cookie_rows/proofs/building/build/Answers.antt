use Rattle.std.proofs.Common.{◌∙◌, ap, sym, [], ◌∷◌, ◌++◌, Ok, map}
use Rattle.std.proofs.lemmas.List.{map-append}
use Rattle.cookie_rows.proofs.building.build.Goals as goal

pub loop-item-preserved : goal.loop-item-preserved
loop-item-preserved g c =
    let (cookies, are_cookies, are_built) = c.loop-item.invariant.built in
    let cookie = c.in_ok-cookie.cookie in
    let progress = c.in-Some.ensures.goes.on c.loop-item.invariant.ends in
    record {
      can = progress.0;
      ends = progress.1;
      built = (
        cookies ++ cookie ∷ [],
        ap (λ items. items ++ c.in-Some.item ∷ []) are_cookies
            ∙ ap (λ item. map Ok cookies ++ item ∷ []) c.in_ok-cookie.was
            ∙ sym (map-append Ok cookies (cookie ∷ [])),
        c.in-Ok.ensures.built cookies are_built,
      );
    }
