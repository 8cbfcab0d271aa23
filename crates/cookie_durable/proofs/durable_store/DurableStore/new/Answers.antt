use Rattle.cookie_durable.proofs.ReadRows.{empty_numbered}
use Rattle.cookie_durable.proofs.SavedFiles.{open_if_sound}
use Rattle.cookie_durable.proofs.durable_store.DurableStore.new.Goals as goal

pub returns-clause-in_step : goal.returns-clause-in_step
returns-clause-in_step g c = record {
  ready = c.requires.ready;
  saved = λ works clean. record {
    is_open = open_if_sound _ _ (g.met.S.Store.broken_if_shut c.args.file) (c.requires.sound clean);
    sound = c.requires.sound clean;
    numbered = empty_numbered _ _ _ _ c.with_hash_key.ensures c.with_hasher.ensures.empty (c.requires.empty clean);
  };
}
