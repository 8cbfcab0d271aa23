-- The cells of the listed cookies so far, and of those that are left, are the cells of all.
use Rattle.std.proofs.Common.{◌≡◌, ◌++◌, filter, map, option_map, string_bytes}
use Rattle.cookie_words.specs.Moments.{moment_of}
use Rattle.cookies.specs.Explanations.{explained_cells, is_explained_for}
use Rattle.cookies.proofs.explanation.RequestRules.rows.Given as goal

abbrev pub invariant-loop-cookie : goal.invariant-loop-cookie
invariant-loop-cookie l =
    let cells = map (explained_cells l.self.context l.self.suffixes.now l.self.url.now (moment_of l.self.time)) in
    let listed = filter (is_explained_for (option_map (λ text. text.now) l.site) l.self.suffixes.now l.self.url.now) in
    map (map string_bytes) l.rows.items ++ cells (listed l.cookie-iterator) ≡ cells (listed l.store.rows)
