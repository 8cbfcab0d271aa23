use Rattle.std.proofs.Common.{sym}
use Rattle.cookie_words.specs.Moments.{moment_of}
use Rattle.cookie_store_c.proofs.Responses.{parsed_value, unparsed_value}
use Rattle.cookie_store_c.proofs.response.parse_value.Goals as goal

pub returns-in-Ok : goal.returns-in-Ok
returns-in-Ok c = λ text second is.
    parsed_value c.args.is_strict text second c.args.value.now c.in-Ok.text.now (c.args.url.now, moment_of c.args.now) c.args.store.now
    c.insert_text.result c.insert_text.new.store is (sym c.in-Ok.ensures) c.insert_text.ensures

pub returns-in-Err : goal.returns-in-Err
returns-in-Err c = λ text second is.
    unparsed_value c.args.is_strict text second c.args.value.now c.args.store.now c.in-Err.status (sym c.in-Err.ensures)
