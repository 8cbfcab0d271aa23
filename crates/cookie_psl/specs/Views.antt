-- What contracts see of a `Suffix`.
use Rattle.cookie_psl.specs.Rules.{SuffixValue}
use Rattle.cookie_psl.specs.declared.suffix.Suffix.{Suffix}

-- a `Suffix` as contracts see it
abbrev pub suffix_value : Suffix → SuffixValue
suffix_value suffix = record { text = suffix.text.now; is_known = suffix.is_known }
