-- What is prepared: with the features put that it names, it is the reader's answer. It rules out features that are put for a refused record.
use Rattle.std.specs.Prelude.{ℕ, ◌*◌, Bool, ◌≡◌, List, length, drop}
use Rattle.spec_format.specs.Record.{was_read}
use Rattle.spec_format.specs.Rooms.{Rooms, answer_of, rooms_of, rooms_in}
use Rattle.spec_format.specs.declared.ReadAnswer.{ReadAnswer}
use Rattle.spec_format.specs.declared.ReadAnswer.TheVariants as answer
use Rattle.read_feature_table.specs.Reads.{features_in}
use Rattle.read_feature_qualifier_rows.specs.Puts.{Fits, FeaturesPut}
use Rattle.read_record_plan.specs.declared.Plan.{Plan}
use Rattle.read_record_plan.specs.Plans.{plan_table}
use Rattle.read_record_sizes.specs.Sizing.{head_plan}
use Rattle.read_record_prepared.specs.declared.Prepared.{Prepared}
use Rattle.spec_contracts.specs.Reads.{Answered}

-- the answer to the record that a plan stands for, and the rooms afterwards
pub record Answering (s : List ℕ) (p : Plan) (old new : Rooms) (r : ReadAnswer) : Type 0 where
  pub is : r ≡ answer_of (length s) old (was_read (plan_table s p) (drop p.rest.place s))
  pub rooms : new ≡ rooms_of old (was_read (plan_table s p) (drop p.rest.place s))

-- of a slice that ends at `end`
abbrev pub no_rows : ℕ → ReadAnswer → Prepared
no_rows end a = record { at = end; place = 0; count = 0; answer = a }

abbrev pub all_rows : Plan → ℕ → Prepared
all_rows p place =
    record {
      at = p.rest.features_at;
      place = place;
      count = p.rest.features.count;
      answer = answer.Done (head_plan p) p.rest.place;
    }

-- of a record that a plan stands for: whatever rooms, of so many rows and numbers of qualifiers, have the features put
pub record Planned (s : List ℕ) (p : Plan) (t₀ t₁ r₀ r₁ c₀ c₁ : List ℕ) (rows qualifiers : ℕ) (n₀ n₁ l₀ l₁ : List ℕ) (r : Prepared) : Type 0 where
  pub answers :
      (t₂ f₀ f₁ q₀ q₁ n₂ : List ℕ) (z : ℕ) → length f₀ ≡ 8 * rows → length q₀ ≡ qualifiers →
      FeaturesPut r.place (features_in (drop r.at s)) t₁ t₂ f₀ f₁ q₀ q₁ n₁ n₂ z →
      Answering s p (rooms_in t₀ r₀ c₀ f₀ q₀ n₀ l₀) (rooms_in t₂ r₁ c₁ f₁ q₁ n₂ l₁) r.answer
  pub fits : Fits s r.at r.count r.place (features_in (drop r.at s))

-- the same of the record at a place, with the strict switch or without
pub record Prepares (strict : Bool) (s : List ℕ) (at : ℕ) (t₀ t₁ r₀ r₁ c₀ c₁ : List ℕ) (rows qualifiers : ℕ) (n₀ n₁ l₀ l₁ : List ℕ) (r : Prepared) : Type 0 where
  pub answers :
      (t₂ f₀ f₁ q₀ q₁ n₂ : List ℕ) (z : ℕ) → length f₀ ≡ 8 * rows → length q₀ ≡ qualifiers →
      FeaturesPut r.place (features_in (drop r.at s)) t₁ t₂ f₀ f₁ q₀ q₁ n₁ n₂ z →
      Answered strict s at (rooms_in t₀ r₀ c₀ f₀ q₀ n₀ l₀) (rooms_in t₂ r₁ c₁ f₁ q₁ n₂ l₁) r.answer
  pub fits : Fits s r.at r.count r.place (features_in (drop r.at s))
