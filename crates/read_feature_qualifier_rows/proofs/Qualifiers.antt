-- One qualifier put into rooms, and the loop over qualifiers. Assumes nothing.
use Prim.Native.Nat.{ℕ, ◌+◌, ◌-◌, ◌≤◌, ◌<◌, ◌^◌}
use mathlib.Core.Path.{◌≡◌, refl, sym, ap, subst, ◌∙◌}
use mathlib.Core.Bool.{Bool}
use mathlib.Core.List.{List, [], ◌∷◌, ◌++◌}
use native.Mathlib.Numerals.{add-one}
use native.Mathlib.Omega.{arith}
use lib.ListN.{length, drop, length-append}
use Rattle.spec_format.specs.Bytes.{absent, is}
use Rattle.spec_format.specs.Table.{Qualifier}
use Rattle.spec_format.specs.Readers.{got, fit_turn, end}
use Rattle.spec_format.specs.Features.{qualifier}
use Rattle.spec_format.specs.Rooms.{pieces_text, pieces_row, qualifier_pieces, texts_of, rows_of}
use Rattle.scan_bytes.specs.Places.{part}
use Rattle.scan_bytes.specs.Parts.{length_part}
use Rattle.base_pen.specs.Pen.{Wrote, Writes, wrote_append}
use Rattle.base_pen.specs.Filling.{Filling, filling_start, filling_as, filling_step, filling_end, filling_bound}
use Rattle.read_feature_value.specs.Reads.{read_text, Placed}
use Rattle.read_feature_qualifiers.specs.Reads.{qualifier_in, ValueStands, QualifierRead}
use Rattle.read_feature_qualifiers.specs.Texts.{absent_text, with_text, texts_more, texts_none}
use Rattle.read_feature_qualifiers.specs.Turns.{qualifiers_in, Reached, reached_none, known, one_more, reached_more, reached_less, count_fits, none_stop, none_cut, reached_stop, reached_cut, all_stop, all_cut}
use Rattle.read_feature_qualifiers.specs.declared.ValueAt.{ValueAt}
use Rattle.read_feature_qualifiers.specs.declared.ValueAt.TheVariants as value
use Rattle.read_feature_qualifiers.specs.declared.QualifierAt.{QualifierAt}
use Rattle.read_feature_qualifiers.specs.declared.QualifierAt.TheVariants as one
use Rattle.read_feature_qualifier_rows.specs.Puts.{Standing, PutTwo, QualifiersPut}

-- ---- one qualifier

absent_row : (at : ℕ) (k : List ℕ) → pieces_row at (qualifier_pieces (record { key = k; value = absent })) ≡ at ∷ length k ∷ 0 ∷ 0 ∷ []
unfolding pieces_row
absent_row at k = refl

with_row : (at : ℕ) (k v : List ℕ) → pieces_row at (qualifier_pieces (record { key = k; value = is v })) ≡ at ∷ length k ∷ (at + length k) ∷ (length v + 1) ∷ []
unfolding pieces_row
with_row at k v = rw (add-one (length v))

module _ (k t₀ : List ℕ) (place : ℕ) (t₁ : List ℕ) (start : ℕ) (r₀ : List ℕ) (row : ℕ) (r₁ : List ℕ) (after : ℕ) where
  absent_two : Writes t₀ place k t₁ start → Writes r₀ row (place ∷ length k ∷ 0 ∷ 0 ∷ []) r₁ after
      → PutTwo (pieces_text (qualifier_pieces (record { key = k; value = absent }))) (pieces_row place (qualifier_pieces (record { key = k; value = absent }))) t₀ place t₁ start r₀ row r₁ after
  absent_two w x = rw (absent_text k, absent_row place k) (record { fit = λ a b. record { texts = w.fit a; rows = x.fit b } })

  with_two : (v m : List ℕ) (stop : ℕ) → Writes t₀ place k m start → Writes m start v t₁ stop → Writes r₀ row (place ∷ length k ∷ start ∷ (length v + 1) ∷ []) r₁ after
      → PutTwo (pieces_text (qualifier_pieces (record { key = k; value = is v }))) (pieces_row place (qualifier_pieces (record { key = k; value = is v }))) t₀ place t₁ stop r₀ row r₁ after
  with_two v m stop w u x =
      rw (with_text k v, with_row place k v)
      (record {
        fit = λ a b.
            let c : place + length k < 2 ^ 64 = omega (arith, length-append k v) in
            let y : Wrote t₀ place k m start = w.fit c in
            let d : start + length v < 2 ^ 64 = omega (arith, length-append k v, y.to) in
            record {
              texts = wrote_append y (u.fit d);
              rows = subst (λ (n : ℕ). Wrote r₀ row (place ∷ length k ∷ n ∷ (length v + 1) ∷ []) r₁ after) y.to (x.fit b);
            };
      })

module _ (s : List ℕ) (indent first end : ℕ) (joined : Bool) (v : ValueAt) (next : ℕ) (h : Standing s indent first end joined v next) where
  value_there : (from : ℕ) (quoted : Bool) (n : ℕ) → v ≡ value.With from quoted n → ValueStands s joined indent (value.With from quoted n) next
  value_there from quoted n e = subst (λ (x : ValueAt). ValueStands s joined indent x next) e h.value

  pub value_placed : (from : ℕ) (quoted : Bool) (n : ℕ) → v ≡ value.With from quoted n → Placed s from joined indent quoted n next
  value_placed from quoted n e = (value_there from quoted n e).1

  pub value_fits : (from : ℕ) (quoted : Bool) (n : ℕ) → v ≡ value.With from quoted n → n < length s
  value_fits from quoted n e = (value_there from quoted n e).0

  key_long : length (part first end s) ≡ end - first
  key_long = let a = h.key in length_part s first end (omega arith) h.keyed

  module _ (t₀ : List ℕ) (place : ℕ) (t₁ : List ℕ) (start : ℕ) (r₀ : List ℕ) (row : ℕ) (r₁ : List ℕ) (after : ℕ) where
    pub put_absent : v ≡ value.Absent → Writes t₀ place (part first end s) t₁ start → Writes r₀ row (place ∷ (end - first) ∷ 0 ∷ 0 ∷ []) r₁ after
        → PutTwo (pieces_text (qualifier_pieces (qualifier_in s indent first end joined v))) (pieces_row place (qualifier_pieces (qualifier_in s indent first end joined v))) t₀ place t₁ start r₀ row r₁ after
    put_absent e w x = rw e (absent_two (part first end s) t₀ place t₁ start r₀ row r₁ after w (rw key_long x))

    pub put_with : (from : ℕ) (quoted : Bool) (n : ℕ) (m : List ℕ) (stop : ℕ) → v ≡ value.With from quoted n → Writes t₀ place (part first end s) m start
        → Writes m start (read_text quoted joined indent (drop from s)) t₁ stop → Writes r₀ row (place ∷ (end - first) ∷ start ∷ (n + 1) ∷ []) r₁ after
        → PutTwo (pieces_text (qualifier_pieces (qualifier_in s indent first end joined v))) (pieces_row place (qualifier_pieces (qualifier_in s indent first end joined v))) t₀ place t₁ stop r₀ row r₁ after
    put_with from quoted n m stop e w u x =
        let l : length (read_text quoted joined indent (drop from s)) ≡ n = sym (value_placed from quoted n e).span.long in
        rw e (with_two (part first end s) t₀ place t₁ start r₀ row r₁ after (read_text quoted joined indent (drop from s)) m stop w u (rw (key_long, l) x))

pub ruleset qualifying = (value_placed, put_absent, put_with)

-- ---- two rooms that are being filled

pub record TwoFilling (t₀ : List ℕ) (p₀ : ℕ) (text r₀ : List ℕ) (q₀ : ℕ) (numbers t : List ℕ) (p : ℕ) (t-rest r : List ℕ) (q : ℕ) (r-rest : List ℕ) : Type 0 where
  pub texts : Filling t₀ p₀ text t p t-rest
  pub rows : Filling r₀ q₀ numbers r q r-rest

pub record TwoLeft (t₀ : List ℕ) (p₀ : ℕ) (text r₀ : List ℕ) (q₀ : ℕ) (numbers t : List ℕ) (p : ℕ) (t-rest r : List ℕ) (q : ℕ) (r-rest : List ℕ) : Type 0 where
  pub fit : p₀ + length text < 2 ^ 64 → q₀ + length numbers < 2 ^ 64 → TwoFilling t₀ p₀ text r₀ q₀ numbers t p t-rest r q r-rest

module _ {t₀ : List ℕ} {p₀ : ℕ} {text r₀ : List ℕ} {q₀ : ℕ} {numbers : List ℕ} where
  two_start : TwoLeft t₀ p₀ text r₀ q₀ numbers t₀ p₀ text r₀ q₀ numbers
  two_start = record { fit = λ a b. record { texts = filling_start; rows = filling_start } }

  -- the rows that are left hold the place that the texts have reached
  two_step : {t : List ℕ} {p : ℕ} {r : List ℕ} {q : ℕ} {t-rest r-rest t' : List ℕ} {p' : ℕ} {r' : List ℕ} {q' : ℕ} (x y z : List ℕ) (rows : ℕ → List ℕ)
      → t-rest ≡ x ++ y → r-rest ≡ z ++ rows (p + length x) → TwoLeft t₀ p₀ text r₀ q₀ numbers t p t-rest r q r-rest → PutTwo x z t p t' p' r q r' q'
      → TwoLeft t₀ p₀ text r₀ q₀ numbers t' p' y r' q' (rows p')
  two_step {t} {p} {r} {q} x y z rows e f h w =
      record {
        fit = λ a b.
            let g = h.fit a b in
            let k = filling_as e g.texts in
            let l = filling_as f g.rows in
            let v = w.fit (filling_bound x y k a) (filling_bound z (rows (p + length x)) l b) in
            record {
              texts = filling_step k v.texts;
              rows = filling_step (subst (λ (n : ℕ). Filling r₀ q₀ numbers r q (z ++ rows n)) (sym v.texts.to) l) v.rows;
            };
      }

  two_end : {t : List ℕ} {p : ℕ} {r : List ℕ} {q : ℕ} {t-rest r-rest : List ℕ} → t-rest ≡ [] → r-rest ≡ [] → TwoLeft t₀ p₀ text r₀ q₀ numbers t p t-rest r q r-rest
      → PutTwo text numbers t₀ p₀ t p r₀ q₀ r q
  two_end e f h =
      record { fit = λ a b. let g = h.fit a b in record { texts = filling_end (filling_as e g.texts); rows = filling_end (filling_as f g.rows) } }

-- ---- the loop over qualifiers

rows_more : (at : ℕ) (x : Qualifier) (qs : List Qualifier)
    → rows_of qualifier_pieces at (x ∷ qs) ≡ pieces_row at (qualifier_pieces x) ++ rows_of qualifier_pieces (at + length (pieces_text (qualifier_pieces x))) qs
unfolding rows_of
rows_more at x qs = refl

rows_none : (at : ℕ) → rows_of qualifier_pieces at [] ≡ []
unfolding rows_of
rows_none at = refl

-- the qualifiers from i on are still to be put
pub record Putting (s : List ℕ) (at indent : ℕ) (t₀ : List ℕ) (place : ℕ) (r₀ : List ℕ) (row i : ℕ) (t : List ℕ) (p : ℕ) (r : List ℕ) (q n : ℕ) : Type 0 where
  pub reached : Reached s at indent i n
  pub texts_long : length t ≡ length t₀
  pub rows_long : length r ≡ length r₀
  pub two :
      TwoLeft t₀ place (texts_of qualifier_pieces (qualifiers_in s indent at)) r₀ row (rows_of qualifier_pieces place (qualifiers_in s indent at))
      t p (texts_of qualifier_pieces (qualifiers_in s indent i)) r q (rows_of qualifier_pieces p (qualifiers_in s indent i))

module _ (s : List ℕ) (at indent : ℕ) (t₀ : List ℕ) (place : ℕ) (r₀ : List ℕ) (row : ℕ) where
  pub putting_none : at ≤ length s → Putting s at indent t₀ place r₀ row at t₀ place r₀ row 0
  putting_none h = record { reached = reached_none s at indent h; texts_long = refl; rows_long = refl; two = two_start }

  module _ (i : ℕ) (t : List ℕ) (p : ℕ) (r : List ℕ) (q n : ℕ) (o : QualifierAt)
      (g : Putting s at indent t₀ place r₀ row i t p r q n) (h : QualifierRead s i indent (qualifier indent (drop i s)) o) where
    module _ (first stop : ℕ) (joined : Bool) (v : ValueAt) (bytes next : ℕ) (e : o ≡ one.Got first stop joined v bytes next) where
      pub putting_stands : Standing s indent first stop joined v next
      putting_stands = let k = known s at indent i n o h first stop joined v bytes next e in record { value = k.stands; key = k.key; keyed = k.keyed }

      pub putting_fits : n + 1 ≤ length s
      putting_fits = count_fits s at indent i n o h first stop joined v bytes next e g.reached

      pub putting_less : length s - next < length s - i
      putting_less = reached_less s at indent i n o h first stop joined v bytes next e

      pub putting_more : (t' : List ℕ) (p' : ℕ) (r' : List ℕ) (q' : ℕ)
          → PutTwo (pieces_text (qualifier_pieces (qualifier_in s indent first stop joined v))) (pieces_row p (qualifier_pieces (qualifier_in s indent first stop joined v))) t p t' p' r q r' q'
          → length t' ≡ length t → length r' ≡ length r → Putting s at indent t₀ place r₀ row next t' p' r' q' (n + 1)
      putting_more t' p' r' q' w a b =
          let the : Qualifier = qualifier_in s indent first stop joined v in
          let qs : List Qualifier = qualifiers_in s indent next in
          let m : qualifiers_in s indent i ≡ the ∷ qs = one_more s at indent i n o h first stop joined v bytes next e in
          record {
            reached = reached_more s at indent i n o h first stop joined v bytes next e g.reached;
            texts_long = a ∙ g.texts_long;
            rows_long = b ∙ g.rows_long;
            two =
                two_step (pieces_text (qualifier_pieces the)) (texts_of qualifier_pieces qs) (pieces_row p (qualifier_pieces the)) (λ n. rows_of qualifier_pieces n qs)
                (ap (λ (l : List Qualifier). texts_of qualifier_pieces l) m ∙ texts_more the qs) (ap (λ (l : List Qualifier). rows_of qualifier_pieces p l) m ∙ rows_more p the qs)
                g.two w;
          }

    putting_end : qualifiers_in s indent i ≡ [] → n ≡ length (qualifiers_in s indent at)
        → ((z : List ℕ) → end (fit_turn (qualifier indent)) (drop at s) ≡ got tt z → z ≡ drop i s)
        → QualifiersPut s at indent t₀ place t r₀ row r (record { next = i; text = p; row = q; count = n })
    putting_end m k z =
        record {
          put =
              two_end (ap (λ (l : List Qualifier). texts_of qualifier_pieces l) m ∙ texts_none) (ap (λ (l : List Qualifier). rows_of qualifier_pieces p l) m ∙ rows_none p)
              g.two;
          counted = k;
          ended = z;
          few = g.reached.few;
          within = g.reached.within;
        }

    pub putting_stop : o ≡ one.No → QualifiersPut s at indent t₀ place t r₀ row r (record { next = i; text = p; row = q; count = n })
    putting_stop e =
        putting_end (none_stop s at indent i n o h e) (all_stop s at indent i n o h g.reached e)
        (λ z f. let d = reached_stop s at indent i n o h g.reached e in cc)

    pub putting_cut : o ≡ one.Cut → QualifiersPut s at indent t₀ place t r₀ row r (record { next = i; text = p; row = q; count = n })
    putting_cut e =
        putting_end (none_cut s at indent i n o h e) (all_cut s at indent i n o h g.reached e)
        (λ z f. let d = reached_cut s at indent i n o h g.reached e in cc)

pub ruleset puttings = (putting_none, putting_stands, putting_fits, putting_less, putting_more, putting_stop, putting_cut)
