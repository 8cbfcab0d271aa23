use Rattle.std.proofs.Common.{◌≡◌, ◌+◌, ◌++◌, ◌∷◌, ◌∙◌, [], ◌||◌, false, ap, arith, length, map, pos, rules, subst, sym}
use Rattle.std.specs.List.{list_any}
use Rattle.cookie_table.specs.Columns.{table_row}
use Rattle.durable_table.specs.declared.change.Change.TheVariants.{Put}
use Rattle.cookie_durable.specs.Checks.{is_unstorable}
use Rattle.cookie_durable.specs.Replacing.{new_rows, rows_from}
use Rattle.cookie_durable.proofs.NewRows.{one_more}
use Rattle.cookie_durable.proofs.replacing.puts_of.Goals as goal

pub loop-cookie-preserved : goal.loop-cookie-preserved
loop-cookie-preserved c =
    let changes = c.loop-cookie.changes.items in
    let cookie = c.in-Some.cookie.now in
    let left = c.next.new.self in
    let pushed : c.push.new.self.items ≡ changes ++ Put (table_row (pos (length changes + 1)) cookie) ∷ [] = search rules in
    let longer : length c.push.new.self.items ≡ length changes + 1 = search rules in
    let yielded : c.loop-cookie.cookie-iterator ≡ cookie ∷ left = search rules in
    let storable : is_unstorable cookie ≡ false = search rules in
    record {
      puts = one_more changes c.push.new.self.items cookie left pushed longer
          ∙ subst (λ cookies. changes ++ map Put (rows_from (pos (length changes + 1)) cookies) ≡ map Put (new_rows c.args.cookies.now.rows)) yielded
          c.loop-cookie.invariant.puts;
      keyed = search rules;
      counted = omega (arith, longer, ap length yielded, c.loop-cookie.invariant.counted);
      storable = sym (ap (λ b. b || list_any is_unstorable left) storable) ∙ sym (ap (list_any is_unstorable) yielded)
          ∙ c.loop-cookie.invariant.storable;
    }
