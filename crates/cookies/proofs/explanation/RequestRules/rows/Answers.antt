use Rattle.std.proofs.Common.{◌≡◌, ℕ, List, Option, filter, map, option_map, string_bytes, subst, rules}
use Rattle.cookie_words.specs.Moments.{moment_of}
use Rattle.cookies.specs.Explanations.{explained_cells, is_explained_for}
use Rattle.cookies.proofs.explanation.RequestRules.rows.Goals as goal

pub returns : goal.returns
returns c =
    let q = c.args.self.now in
    let explained : Option (List ℕ) → List (List (List ℕ)) = λ site.
    map (explained_cells q.context q.suffixes.now q.url.now (moment_of q.time))
    (filter (is_explained_for site q.suffixes.now q.url.now) c.args.store.now.rows) in
    let found : map (map string_bytes) c.loop-cookie.rows.items ≡ explained (option_map (λ text. text.now) c.site-site.result) = search rules in
    subst (λ site. map (map string_bytes) c.loop-cookie.rows.items ≡ explained site) c.site-site.ensures found
