-- The switch, case by case: where there is no stray letter it changes nothing.
use Rattle.std.specs.Prelude.{ℕ, Bool, true, false, List, ◌≡◌, refl}
use Rattle.spec_format.specs.Bytes.{May, absent, is}
use Rattle.spec_format.specs.Impossible.{impossible}
use Rattle.spec_format.specs.Record.{Outcome, was_read, not_read}
use Rattle.spec_format.specs.Strict.{strictly}
use Rattle.spec_format.specs.Table.{Table}
use Rattle.spec_format.specs.declared.Unread.{Unread}
use Rattle.spec_format.specs.declared.Unread.TheVariants as unread

pub strictly_none : (strict : Bool) (o : Outcome) → strictly strict absent o ≡ o
strictly_none true o = refl
strictly_none false o = refl

-- what is read, or refused by another number than 16, is so without the switch
pub strictly_read : (strict : Bool) (x : May (List ℕ)) (o : Outcome) (t : Table) (rest : List ℕ) → strictly strict x o ≡ was_read t rest → o ≡ was_read t rest
strictly_read false x o t rest e = e
strictly_read true absent o t rest e = e
strictly_read true (is z) o t rest e = impossible cc

pub strictly_other : (strict : Bool) (x : May (List ℕ)) (o : Outcome) (why : Unread) → strictly strict x o ≡ not_read why → (why ≡ unread.StrayLetter → ⊥) → o ≡ not_read why
strictly_other false x o why e other = e
strictly_other true absent o why e other = e
strictly_other true (is z) o why e other = absurd (other cc)

-- what is read with the switch on has no stray letter
pub strictly_clean : (x : May (List ℕ)) (o : Outcome) (t : Table) (rest : List ℕ) → strictly true x o ≡ was_read t rest → x ≡ absent
strictly_clean absent o t rest e = refl
strictly_clean (is z) o t rest e = impossible cc

-- 16 is the stray letter's, where nothing else is
pub strictly_stray : (strict : Bool) (x : May (List ℕ)) (o : Outcome) → (o ≡ not_read unread.StrayLetter → ⊥) → strictly strict x o ≡ not_read unread.StrayLetter → (z : List ℕ) × (x ≡ is z)
strictly_stray false x o never e = absurd (never e)
strictly_stray true absent o never e = absurd (never e)
strictly_stray true (is z) o never e = (z, refl)
