use Rattle.std.proofs.Common.{◌≡◌, Bool, None, Option, Some, inl, refl}
use Rattle.cookie_laws.specs.Contents.{Contents}
use Rattle.cookie_store_c.specs.Calls.{flag_after_new}
use Rattle.cookie_store_c.specs.declared.status.Status.TheVariants.{NoStore}
use Rattle.cookie_store_c.proofs.exports.cookie_store_clone.Goals as goal

-- without a new store the flag is unchanged
same_flag : (chosen : Bool) (store : Option Contents) (is_strict : Bool) → is_strict ≡ flag_after_new chosen store store is_strict
same_flag chosen None is_strict = refl
same_flag chosen (Some store) is_strict = refl

pub returns-in_default-clause-outcome : goal.returns-in_default-clause-outcome
returns-in_default-clause-outcome c =
    (NoStore, c.code.ensures, rw (← c.in_default.ensures.taken) (inl refl))

pub returns-in_default-clause-strict : goal.returns-in_default-clause-strict
returns-in_default-clause-strict c =
    same_flag c.args.handle.now.is_strict c.args.copy.now.store_ptr.store c.args.copy.now.is_strict
