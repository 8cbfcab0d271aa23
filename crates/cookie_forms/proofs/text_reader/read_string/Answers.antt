use Rattle.std.proofs.Common.{◌≡◌, ◌∷◌, arith}
use Rattle.json.specs.Token.{Token}
use Rattle.cookie_forms.proofs.ReadTokens.{text_read}
use Rattle.cookie_forms.proofs.text_reader.read_string.Goals as goal

pub returns-in-String : goal.returns-in-String
returns-in-String c =
    let is : c.args.reader.now ≡ Token.string c.in-String.text.now ∷ c.next_token.new.reader = grind arith in
    λ depth. rw is (text_read depth c.in-String.text.now c.next_token.new.reader)
