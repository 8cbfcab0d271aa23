use Rattle.std.proofs.Common.{◌≡◌, ℕ, List, [], ◌∷◌, ◌++◌, subst}
use Rattle.std.specs.Result.{OnOk}
use Rattle.std.specs.Str.{IsUtf8}
use Rattle.sqlite_value.specs.declared.value.Value.TheVariants.{Text}
use Rattle.cookie_words.specs.Moments.{moment_of}
use Rattle.cookie_table.specs.Columns.{time_value}
use Rattle.cookie_table.proofs.ReadBack.{not_early, time_as_attribute, time_as_expiry}
use Rattle.cookie_table.proofs.writing.push_time.Goals as goal

pub returns-clause-ok : goal.returns-clause-ok
unfolding time_value
returns-clause-ok c =
    subst (λ (text : List ℕ). OnOk c.push.result (c.push.new.self ≡ c.args.row.now ++ Text text ∷ [])) c.moment_bytes-text.ensures.text c.push.ensures.ok

pub returns-clause-expiry : goal.returns-clause-expiry
returns-clause-expiry c =
    time_as_expiry (moment_of c.args.time) (subst IsUtf8 c.moment_bytes-text.ensures.text c.moment_bytes-text.ensures.utf8)
    (c.moments_read_back.ensures c.args.time (not_early c.args.time.date.year c.requires))

pub returns-clause-attribute : goal.returns-clause-attribute
returns-clause-attribute c =
    time_as_attribute (moment_of c.args.time) (subst IsUtf8 c.moment_bytes-text.ensures.text c.moment_bytes-text.ensures.utf8)
    (c.moments_read_back.ensures c.args.time (not_early c.args.time.date.year c.requires))
