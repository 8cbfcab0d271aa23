use Rattle.std.proofs.Common.{◌∙◌}
use Rattle.cookie_words.specs.Moments.{moment_of}
use Rattle.cookie_strict.proofs.CheckedPairs.{made_pair}
use Rattle.cookie_strict.proofs.insertion.insert_raw.Goals as goal

pub insert_checked-requires : goal.insert_checked-requires
insert_checked-requires c = record {
  pair = made_pair c.args.raw c.args.url.now (moment_of c.args.now) c.in_ok-cookie.cookie c.in_ok-cookie.ensures.value ∙ c.requires.pair;
}
