use Rattle.std.proofs.Common.{append_assoc, ◌∙◌}
use Rattle.std.proofs.lemmas.Result.{on_ok_weaker}
use Rattle.cookie_forms.proofs.tokens.write_saved.Goals as goal

pub returns-clause-tokens : goal.returns-clause-tokens
returns-clause-tokens g c =
    on_ok_weaker c.token-7.result (λ last.
    last ∙ rw (
      c.in_ok-token-6.ensures.tokens,
      c.in_ok-token-5.ensures.tokens,
      c.in_ok-write_path.ensures.tokens,
      c.in_ok-token-4.ensures.tokens,
      c.in_ok-write_expiry.ensures.tokens,
      c.in_ok-token-3.ensures.tokens,
      c.in_ok-write_domain.ensures.tokens,
      c.in_ok-token-2.ensures.tokens,
      c.in_ok-token.ensures.tokens,
      c.as_str.ensures.value,
      c.as_str-2.ensures.value,
    ) (simp append_assoc)) c.token-7.ensures.tokens
