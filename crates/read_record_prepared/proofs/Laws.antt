-- The laws of preparing: what refuses or does not fit leaves no feature to be put, and what fits leaves all of them.
use Prim.Native.Nat.{ℕ, ◌*◌, ◌≤◌, ◌<◌}
use native.Mathlib.Omega.{arith}
use mathlib.Core.Bool.{Bool, true, not, false}
use mathlib.Core.Path.{◌≡◌, refl, sym, subst}
use mathlib.Core.List.{List, []}
use lib.ListN.{length, drop}
use lib.Seq.{drop-length}
use Rattle.spec_format.specs.Table.{Feature}
use Rattle.spec_format.specs.Readers.{Ans, got, no, cut}
use Rattle.spec_format.specs.Features.{feature}
use Rattle.spec_format.specs.Record.{most}
use Rattle.spec_format.specs.Strict.{record_by}
use Rattle.spec_format.specs.Rooms.{Rooms, feature_rows, qualifier_rows, rooms_in}
use Rattle.spec_format.specs.declared.Sizes.{Sizes}
use Rattle.spec_format.specs.declared.Unread.{Unread}
use Rattle.spec_format.specs.declared.Unread.TheVariants as unread
use Rattle.spec_format.specs.declared.ReadAnswer.{ReadAnswer}
use Rattle.spec_format.specs.declared.ReadAnswer.TheVariants as answer
use Rattle.spec_loops.specs.Loops.{try_members_no, try_members_cut}
use Rattle.spec_loops.proofs.Shrinks.{feature_small}
use Rattle.read_feature_table.specs.Reads.{features_in}
use Rattle.read_feature_qualifier_rows.specs.Puts.{Fits, FeaturesPut}
use Rattle.read_record_plan.specs.declared.Plan.{Plan}
use Rattle.read_record_plan.specs.declared.PlanAt.{PlanAt}
use Rattle.read_record_plan.specs.declared.PlanAt.TheVariants as plan
use Rattle.read_record_plan.specs.Plans.{plan_table, Ready, Plans}
use Rattle.read_record_frame.specs.Fills.{AroundFilled}
use Rattle.read_record_sizes.specs.Sizing.{sizes_in, fits_in}
use Rattle.read_record_prepared.specs.declared.Prepared.{Prepared}
use Rattle.read_record_prepared.specs.Prepares.{no_rows, all_rows, Planned, Prepares}
use Rattle.read_record_prepared.proofs.Answers.{refused_long, refused_beyond, refused_end, refused_plan, answered}
use Rattle.read_record_prepared.proofs.Filled.{features_fit, laid_over, answer_room, answer_done}
use Rattle.spec_contracts.specs.Reads.{Answered}

-- ---- no feature

none_of_none : features_in [] ≡ []
none_of_none = go (feature []) refl
  where
    go : (o : Ans Feature) → feature [] ≡ o → features_in [] ≡ []
    go (got x z) e = let h : length z < 0 = feature_small [] x z e in absurd (omega arith)
    go no e = try_members_no feature [] e
    go cut e = try_members_cut feature [] e

-- none stands at the end
none_left : (s : List ℕ) → features_in (drop (length s) s) ≡ []
none_left s = rw (drop-length s) none_of_none

none_fits : (s : List ℕ) → Fits s (length s) 0 0 (features_in (drop (length s) s))
unfolding qualifier_rows
none_fits s =
    rw (none_left s)
    (record {
      within = omega arith;
      short = λ h. absurd (omega arith);
      counted = refl;
      texts = omega arith;
      qualifiers = omega arith;
    })

-- nothing is put
unchanged : (s t₁ t₂ f₀ f₁ q₀ q₁ n₀ n₁ : List ℕ) (z : ℕ) → FeaturesPut 0 (features_in (drop (length s) s)) t₁ t₂ f₀ f₁ q₀ q₁ n₀ n₁ z →
    (t₂ ≡ t₁) × ((f₁ ≡ f₀) × ((q₁ ≡ q₀) × (n₁ ≡ n₀)))
unfolding feature_rows qualifier_rows
unchanged s t₁ t₂ f₀ f₁ q₀ q₁ n₀ n₁ z h =
    let k : FeaturesPut 0 [] t₁ t₂ f₀ f₁ q₀ q₁ n₀ n₁ z = subst (λ (fs : List Feature). FeaturesPut 0 fs t₁ t₂ f₀ f₁ q₀ q₁ n₀ n₁ z) (none_left s) h in
    (k.texts.is, (k.features, (k.qualifiers, k.locations)))

module _ (strict : Bool) (s : List ℕ) (at : ℕ) (t r c : List ℕ) (rows qualifiers : ℕ) (n l : List ℕ) (x : Prepared) where
  -- an answer that leaves all rooms as they were
  unprepared : (a : ReadAnswer) → ((old : Rooms) → Answered strict s at old old a) → x ≡ no_rows (length s) a → Prepares strict s at t t r r c c rows qualifiers n n l l x
  unprepared a h e =
      subst (λ (y : Prepared). Prepares strict s at t t r r c c rows qualifiers n n l l y) (sym e)
      (record {
        answers = λ t₂ f₀ f₁ q₀ q₁ n₂ z i j k.
            let u = unchanged s t t₂ f₀ f₁ q₀ q₁ n n₂ z k in
            rw (u.0, u.1.0, u.1.1.0, u.1.1.1) (h (rooms_in t r c f₀ q₀ n l));
        fits = none_fits s;
      })

  pub unread_long : most < length s → x ≡ no_rows (length s) (answer.Refused unread.BadPlace) → Prepares strict s at t t r r c c rows qualifiers n n l l x
  unread_long h e = unprepared (answer.Refused unread.BadPlace) (λ old. refused_long strict s at old h) e

  pub unread_beyond : length s ≤ most → length s < at → x ≡ no_rows (length s) (answer.Refused unread.BadPlace) → Prepares strict s at t t r r c c rows qualifiers n n l l x
  unread_beyond m h e = unprepared (answer.Refused unread.BadPlace) (λ old. refused_beyond strict s at old m h) e

  pub unread_end : length s ≤ most → length s ≤ at → at ≤ length s → x ≡ no_rows (length s) (answer.Refused unread.AtEnd) →
      Prepares strict s at t t r r c c rows qualifiers n n l l x
  unread_end m h w e = unprepared (answer.Refused unread.AtEnd) (λ old. refused_end strict s at old m h w) e

  pub unread_plan : (o : PlanAt) → Plans s (record_by strict (drop at s)) o → length s ≤ most → at < length s → (why : Unread) → o ≡ plan.Refused why →
      x ≡ no_rows (length s) (answer.Refused why) → Prepares strict s at t t r r c c rows qualifiers n n l l x
  unread_plan o h m w why k e = unprepared (answer.Refused why) (λ old. refused_plan strict s at o h m w old why k) e

-- what was planned is what is read
pub prepared : (strict : Bool) (s : List ℕ) (at : ℕ) (o : PlanAt) → Plans s (record_by strict (drop at s)) o → length s ≤ most → at < length s → (p : Plan) → o ≡ plan.Ready p →
    (t₀ t₁ r₀ r₁ c₀ c₁ : List ℕ) (rows qualifiers : ℕ) (n₀ n₁ l₀ l₁ : List ℕ) (x : Prepared) →
    Planned s p t₀ t₁ r₀ r₁ c₀ c₁ rows qualifiers n₀ n₁ l₀ l₁ x → Prepares strict s at t₀ t₁ r₀ r₁ c₀ c₁ rows qualifiers n₀ n₁ l₀ l₁ x
prepared strict s at o h m w p e t₀ t₁ r₀ r₁ c₀ c₁ rows qualifiers n₀ n₁ l₀ l₁ x k =
    record {
      answers = λ t₂ f₀ f₁ q₀ q₁ n₂ z u v d.
          answered strict s at o h m w p e (rooms_in t₀ r₀ c₀ f₀ q₀ n₀ l₀) (rooms_in t₂ r₁ c₁ f₁ q₁ n₂ l₁) x.answer (k.answers t₂ f₀ f₁ q₀ q₁ n₂ z u v d);
      fits = k.fits;
    }

-- ---- all features

module _ (s : List ℕ) (p : Plan) (h : Ready s p) (t₀ r₀ c₀ : List ℕ) (rows qualifiers : ℕ) (n₀ l₀ : List ℕ) (n : Sizes) (b : Bool) (k : n ≡ sizes_in p)
    (m : b ≡ fits_in n (length t₀) (length r₀) (length c₀) (8 * rows) qualifiers (length n₀) (length l₀)) (x : Prepared) where
  fits_rooms : (f₀ q₀ : List ℕ) → length f₀ ≡ 8 * rows → length q₀ ≡ qualifiers →
      b ≡ fits_in n (length t₀) (length r₀) (length c₀) (length f₀) (length q₀) (length n₀) (length l₀)
  fits_rooms f₀ q₀ e d = rw (e, d) m

  pub planned_room : not b ≡ true → x ≡ no_rows (length s) (answer.Room n) → Planned s p t₀ t₀ r₀ r₀ c₀ c₀ rows qualifiers n₀ n₀ l₀ l₀ x
  planned_room w e =
      subst (λ (y : Prepared). Planned s p t₀ t₀ r₀ r₀ c₀ c₀ rows qualifiers n₀ n₀ l₀ l₀ y) (sym e)
      (record {
        answers = λ t₂ f₀ f₁ q₀ q₁ n₂ z u v d.
            let same = unchanged s t₀ t₂ f₀ f₁ q₀ q₁ n₀ n₂ z d in
            rw (same.0, same.1.0, same.1.1.0, same.1.1.1) (answer_room s p h (rooms_in t₀ r₀ c₀ f₀ q₀ n₀ l₀) n b k (fits_rooms f₀ q₀ u v) w);
        fits = none_fits s;
      })

  pub planned_done : (t₁ r₁ c₁ n₁ l₁ : List ℕ) (a : ℕ) → not b ≡ false → AroundFilled (plan_table s p) t₀ t₁ r₀ r₁ c₀ c₁ n₀ n₁ l₀ l₁ a → x ≡ all_rows p a →
      Planned s p t₀ t₁ r₀ r₁ c₀ c₁ rows qualifiers n₀ n₁ l₀ l₁ x
  planned_done t₁ r₁ c₁ n₁ l₁ a w d e =
      subst (λ (y : Prepared). Planned s p t₀ t₁ r₀ r₁ c₀ c₁ rows qualifiers n₀ n₁ l₀ l₁ y) (sym e)
      (record {
        answers = λ t₂ f₀ f₁ q₀ q₁ n₂ z u v y.
            answer_done s p h (rooms_in t₀ r₀ c₀ f₀ q₀ n₀ l₀) n b k (fits_rooms f₀ q₀ u v) (rooms_in t₂ r₁ c₁ f₁ q₁ n₂ l₁) w
            (laid_over s p h t₀ t₁ t₂ r₀ r₁ c₀ c₁ f₀ f₁ q₀ q₁ n₀ n₁ n₂ l₀ l₁ a z d y);
        fits = features_fit s p h a d.gap;
      })

pub ruleset preparing = (unread_long, unread_beyond, unread_end, unread_plan, prepared)
