use Rattle.std.proofs.Common.{◌≡◌, ◌∷◌, arith}
use Rattle.json.specs.Token.{Token}
use Rattle.cookie_forms.proofs.ReadTokens.{tagged_read}
use Rattle.cookie_forms.proofs.text_reader.read_tagged.Goals as goal

pub returns : goal.returns
returns c =
    let tag : c.args.reader.now ≡ Token.key c.in-Key.tag.now ∷ c.next_token.new.reader = grind arith in
    let text : c.next_token.new.reader ≡ Token.string c.in-String.text.now ∷ c.next_token-2.new.reader = grind arith in
    let closed : c.next_token-2.new.reader ≡ Token.end_object ∷ c.next_token-3.new.reader = grind arith in
    λ depth some. rw (tag, text, closed) (tagged_read depth c.in-Key.tag.now c.in-String.text.now c.next_token-3.new.reader some)
