-- What an answer of the location reader says of the text's reading.
use Rattle.std.specs.Prelude.{ℕ, ◌≡◌, refl, Bool, true, false, List, length}
use Rattle.std.proofs.Common.{sym, ◌∙◌}
use Rattle.spec_format.specs.Impossible.{impossible}
use Rattle.spec_format.specs.Location.{Reading, one, none, too_deep, is_one, is_deep, rows_one}
use Rattle.read_location.specs.declared.Location.{Location}
use Rattle.read_location.specs.declared.Location.TheVariants as location
use Rattle.read_location.specs.Reads.{location_of, Answered}

-- its rows
module _ {o : Reading} {seen old : List ℕ} {first : ℕ} {new : List ℕ} {r : Location} (h : Answered o seen old first new r) where
  pub answer_rows : {rows : ℕ} {same : Bool} → r ≡ location.Read rows same → (is_one o ≡ true) × (rows ≡ length (rows_one o))
  answer_rows {rows} {same} e = go o (sym e ∙ h.is)
    where
      go : (o : Reading) → location.Read rows same ≡ location_of seen first o → (is_one o ≡ true) × (rows ≡ length (rows_one o))
      go (one ls) q = (refl, cc)
      go none q = impossible cc
      go too_deep q = impossible cc

  pub answer_none : r ≡ location.None → is_one o ≡ false
  answer_none e = go o (sym e ∙ h.is)
    where
      go : (o : Reading) → location.None ≡ location_of seen first o → is_one o ≡ false
      go (one ls) q = impossible cc
      go none q = refl
      go too_deep q = refl

  pub answer_deep : r ≡ location.TooDeep → is_one o ≡ false
  answer_deep e = go o (sym e ∙ h.is)
    where
      go : (o : Reading) → location.TooDeep ≡ location_of seen first o → is_one o ≡ false
      go (one ls) q = impossible cc
      go none q = refl
      go too_deep q = refl

-- whether it is too deep
module _ (o : Reading) (seen old : List ℕ) (first : ℕ) (new : List ℕ) (r : Location) (h : Answered o seen old first new r) where
  pub read_deep : (rows : ℕ) (same : Bool) → r ≡ location.Read rows same → false ≡ is_deep o
  read_deep rows same e = go o (sym e ∙ h.is)
    where
      go : (o : Reading) → location.Read rows same ≡ location_of seen first o → false ≡ is_deep o
      go (one ls) q = refl
      go none q = refl
      go too_deep q = impossible cc

  pub none_deep : r ≡ location.None → false ≡ is_deep o
  none_deep e = go o (sym e ∙ h.is)
    where
      go : (o : Reading) → location.None ≡ location_of seen first o → false ≡ is_deep o
      go (one ls) q = refl
      go none q = refl
      go too_deep q = impossible cc

  pub deep_deep : r ≡ location.TooDeep → true ≡ is_deep o
  deep_deep e = go o (sym e ∙ h.is)
    where
      go : (o : Reading) → location.TooDeep ≡ location_of seen first o → true ≡ is_deep o
      go (one ls) q = impossible cc
      go none q = impossible cc
      go too_deep q = refl

pub ruleset deeps = (read_deep, none_deep, deep_deep)
