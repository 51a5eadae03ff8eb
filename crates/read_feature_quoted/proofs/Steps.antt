-- Quotes, line ends and indents in a row, as escapes. Assumes nothing.
use Prim.Native.Nat.{ℕ, zero, suc, ◌+◌, ◌-◌, ◌≤◌, ◌<◌}
use mathlib.Core.Path.{◌≡◌, refl, sym, subst}
use mathlib.Core.Bool.{Bool, true, false}
use mathlib.Core.List.{List, [], ◌∷◌}
use native.Mathlib.Omega.{arith}
use native.Mathlib.Numerals.{add-one}
use lib.ListN.{length, get_or, drop, drop_of_length-le}
use lib.Seq.{drop-cons}
use lib.Dec.{eqb}
use borrow.Author.Tests.{eq-eqb, ne_eqb}
use Rattle.spec_format.specs.Bytes.{spaces}
use Rattle.spec_format.specs.Readers.{Ans, got, no, cut, bind, mapped, or_else, tag, line_end}
use Rattle.spec_format.specs.Features.{escape}
use Rattle.scan_bytes.specs.Views.{Stepped, Emptied}
use Rattle.scan_bytes.specs.Sequence.{step_places, empty_places}
use Rattle.scan_bytes.specs.declared.Step.{Step}
use Rattle.scan_bytes.specs.declared.Step.TheVariants as step
use Rattle.read_feature_quoted.specs.declared.Escape.{Escape}
use Rattle.read_feature_quoted.specs.declared.Escape.TheVariants as escape'
use Rattle.read_feature_quoted.specs.Escapes.{feed, second_quote, split_quote, later_escape, QuoteSpan, PastQuote, QuoteStep, StepOne, Escaped}

module _ (s : List ℕ) (at : ℕ) where
  pub quote_cut : length s ≤ at → cut ≡ tag (34 ∷ []) (drop at s)
  unfolding tag
  quote_cut h = rw (drop_of_length-le s h)

  pub quote_no : at < length s → (get_or s at 0 ≡ 34 → ⊥) → no ≡ tag (34 ∷ []) (drop at s)
  unfolding tag
  quote_no h e = rw (drop-cons s at 0, tag, ne_eqb _ 34 e)

  pub quote_got : at < length s → get_or s at 0 ≡ 34 → got tt (drop (at + 1) s) ≡ tag (34 ∷ []) (drop at s)
  unfolding tag
  quote_got h e = rw (drop-cons s at 0, tag, eq-eqb _ 34 e, add-one)

pub ruleset quotes = (quote_cut, quote_no, quote_got)

pub quote_is : {s : List ℕ} {at : ℕ} {o : Ans Unit} {r : Step} {n : ℕ} → QuoteStep s at o r → r ≡ step.Got n → o ≡ got tt (drop n s)
quote_is h e = rw (← h.is, e)

pub quote_span : {s : List ℕ} {at : ℕ} {o : Ans Unit} {r : Step} {n : ℕ} → QuoteStep s at o r → r ≡ step.Got n → QuoteSpan s at n
quote_span {s} {at} h e = subst (λ (x : Step). PastQuote s at x) e h.place

pub quote_within : (s : List ℕ) (at : ℕ) (o : Ans Unit) (r : Step) (n : ℕ) → QuoteStep s at o r → r ≡ step.Got n → n ≤ length s
quote_within s at o r n h e = (quote_span h e).within

one_is : {s : List ℕ} {at : ℕ} {o : Ans Unit} {r : Step} {n : ℕ} → StepOne s at o r → r ≡ step.Got n → o ≡ got tt (drop n s)
one_is h e = rw (← h.is, e)

one_places : {s : List ℕ} {at : ℕ} {o : Ans Unit} {r : Step} {n : ℕ} → StepOne s at o r → r ≡ step.Got n → (at < n) × (n ≤ length s)
one_places {s} {at} h e = subst (λ (x : Step). one s at x) e h.place
  where
    one : List ℕ → ℕ → Step → Type 0
    one s at (step.Got n) = (at < n) × (n ≤ length s)
    one s at step.No = Unit
    one s at step.Cut = Unit

-- what follows a quote: the quote stays the first byte
module _ (s : List ℕ) (at n : ℕ) (o : Ans Unit) where
  from_quote : QuoteSpan s at n → (x : Step) → StepOne s n o x → QuoteStep s at o x
  from_quote h (step.Got l) q =
      let p = q.place in
      record { is = q.is; place = record { from = let a = h.from in omega arith; within = p.1; byte = h.byte } }
  from_quote h step.No q = record { is = q.is; place = tt }
  from_quote h step.Cut q = record { is = q.is; place = tt }

  -- a quote is a step of one byte at least, from any place before it
  to_quote : at ≤ n → (x : Step) → QuoteStep s n o x → StepOne s at o x
  to_quote h (step.Got l) q = let p = q.place in record { is = q.is; place = (let a = p.from in omega arith, p.within) }
  to_quote h step.No q = record { is = q.is; place = tt }
  to_quote h step.Cut q = record { is = q.is; place = tt }

-- ---- two quotes

double_is : (z : List ℕ) → tag (34 ∷ 34 ∷ []) z ≡ bind (tag (34 ∷ []) z) (λ _ r. tag (34 ∷ []) r)
unfolding tag
double_is [] = refl
double_is (b ∷ z) = go (eqb b 34) refl
  where
    go : (x : Bool) → eqb b 34 ≡ x → tag (34 ∷ 34 ∷ []) (b ∷ z) ≡ bind (tag (34 ∷ []) (b ∷ z)) (λ _ r. tag (34 ∷ []) r)
    go true e = rw (tag, e)
    go false e = rw (tag, e)

module _ (s : List ℕ) (at : ℕ) (r : Step) (h : QuoteStep s at (tag (34 ∷ []) (drop at s)) r) where
  pub double_no : r ≡ step.No → QuoteStep s at (tag (34 ∷ 34 ∷ []) (drop at s)) step.No
  double_no e = rw (double_is (drop at s)) (record { is = rw (← h.is, e); place = tt })

  pub double_cut : r ≡ step.Cut → QuoteStep s at (tag (34 ∷ 34 ∷ []) (drop at s)) step.Cut
  double_cut e = rw (double_is (drop at s)) (record { is = rw (← h.is, e); place = tt })

  pub double_got : (n : ℕ) (x : Step) → r ≡ step.Got n → QuoteStep s n (tag (34 ∷ []) (drop n s)) x → QuoteStep s at (tag (34 ∷ 34 ∷ []) (drop at s)) x
  double_got n x e q = rw (double_is (drop at s), quote_is h e) (from_quote s at n _ (quote_span h e) x (to_quote s n n _ (omega arith) x q))

pub ruleset doubles = (quote_within, double_no, double_cut, double_got)

-- ---- a line's end and the indent

module _ (s : List ℕ) (at indent : ℕ) (r : Step) (h : Emptied s at (line_end (drop at s)) r) where
  pub feed_no : r ≡ step.No → StepOne s at (feed indent (drop at s)) step.No
  unfolding feed
  feed_no e = record { is = rw (← h.is, e); place = tt }

  pub feed_cut : r ≡ step.Cut → StepOne s at (feed indent (drop at s)) step.Cut
  unfolding feed
  feed_cut e = record { is = rw (← h.is, e); place = tt }

  pub feed_got : (n : ℕ) (x : Step) → r ≡ step.Got n → Stepped s n (tag (spaces indent) (drop n s)) x → StepOne s at (feed indent (drop at s)) x
  unfolding feed
  feed_got n x e q = rw (← h.is, e) (go x q)
    where
      go : (x : Step) → Stepped s n (tag (spaces indent) (drop n s)) x → StepOne s at (tag (spaces indent) (drop n s)) x
      go (step.Got l) q = let p = empty_places h e in let k = q.place in record { is = q.is; place = (omega arith, k.1) }
      go step.No q = record { is = q.is; place = tt }
      go step.Cut q = record { is = q.is; place = tt }

pub ruleset feeds = (feed_no, feed_cut, feed_got)

-- ---- a line's end, the indent and a quote

-- whatever stands before it, a byte after the indent that is no quote says No
else_after : (s : List ℕ) (n i : ℕ) → i + n < length s → (get_or s (i + n) 0 ≡ 34 → ⊥) → bind (tag (spaces n) (drop i s)) (λ _ z. tag (34 ∷ []) z) ≡ no
unfolding tag
else_after s zero i h e = let f : i + 0 ≡ i = omega arith in sym (quote_no s i (omega arith) (rw f at e))
else_after s (suc n) i h e = go (else_after s n (suc i)) (eqb (get_or s i 0) 32) refl
  where
    f : suc i + n ≡ i + suc n
    f = omega arith

    go : (suc i + n < length s → (get_or s (suc i + n) 0 ≡ 34 → ⊥) → bind (tag (spaces n) (drop (suc i) s)) (λ _ z. tag (34 ∷ []) z) ≡ no) → (x : Bool) → eqb (get_or s i 0) 32 ≡ x
        → bind (tag (spaces (suc n)) (drop i s)) (λ _ z. tag (34 ∷ []) z) ≡ no
    go ih true q = let k : i < length s = omega arith in rw (drop-cons s i 0, tag, q) (ih (omega arith) (rw f e))
    go ih false q = let k : i < length s = omega arith in rw (drop-cons s i 0, tag, q)

module _ (s : List ℕ) (at indent : ℕ) (r : Step) (h : Emptied s at (line_end (drop at s)) r) where
  pub second_no : r ≡ step.No → StepOne s at (second_quote indent (drop at s)) step.No
  unfolding second_quote feed
  second_no e = record { is = rw (← h.is, e); place = tt }

  pub second_cut : r ≡ step.Cut → StepOne s at (second_quote indent (drop at s)) step.Cut
  unfolding second_quote feed
  second_cut e = record { is = rw (← h.is, e); place = tt }

  module _ (n : ℕ) (e : r ≡ step.Got n) where
    pub second_else : indent < length s - n → (get_or s (n + indent) 0 ≡ 34 → ⊥) → StepOne s at (second_quote indent (drop at s)) step.No
    unfolding second_quote feed
    second_else l f = record { is = rw (← h.is, e) (sym (else_after s indent n (omega arith) f)); place = tt }

    module _ (q : Step) (g : Stepped s n (tag (spaces indent) (drop n s)) q) where
      pub second_unfed : q ≡ step.No → StepOne s at (second_quote indent (drop at s)) step.No
      unfolding second_quote feed
      second_unfed f = record { is = rw (← h.is, e, ← g.is, f); place = tt }

      pub second_unclear : q ≡ step.Cut → StepOne s at (second_quote indent (drop at s)) step.Cut
      unfolding second_quote feed
      second_unclear f = record { is = rw (← h.is, e, ← g.is, f); place = tt }

      pub second_got : (m : ℕ) (x : Step) → q ≡ step.Got m → QuoteStep s m (tag (34 ∷ []) (drop m s)) x → StepOne s at (second_quote indent (drop at s)) x
      unfolding second_quote feed
      second_got m x f p =
          let a = empty_places h e in
          let b = step_places g f in
          rw (← h.is, e, ← g.is, f) (to_quote s at m _ (omega arith) x p)

pub ruleset seconds = (second_no, second_cut, second_else, second_unfed, second_unclear, second_got)

-- ---- two quotes with a line's end between them

module _ (s : List ℕ) (at indent : ℕ) (r : Step) (h : QuoteStep s at (tag (34 ∷ []) (drop at s)) r) where
  pub split_no : r ≡ step.No → QuoteStep s at (split_quote indent (drop at s)) step.No
  unfolding split_quote
  split_no e = record { is = rw (← h.is, e); place = tt }

  pub split_cut : r ≡ step.Cut → QuoteStep s at (split_quote indent (drop at s)) step.Cut
  unfolding split_quote
  split_cut e = record { is = rw (← h.is, e); place = tt }

  pub split_got : (n : ℕ) (x : Step) → r ≡ step.Got n → StepOne s n (second_quote indent (drop n s)) x → QuoteStep s at (split_quote indent (drop at s)) x
  unfolding split_quote
  split_got n x e q = rw (quote_is h e) (from_quote s at n _ (quote_span h e) x q)

pub ruleset splits = (quote_within, split_no, split_cut, split_got)

-- ---- escapes

module _ (indent : ℕ) where
  inner : (o : Ans Unit) → bind {B = ℕ} o (λ _ s. mapped (λ _. 34) (tag (34 ∷ []) s)) ≡ mapped (λ _. 34) (bind o (λ _ s. tag (34 ∷ []) s))
  inner (got u r) = refl
  inner no = refl
  inner cut = refl

  middle : (o : Ans (List ℕ)) → bind {B = ℕ} o (λ _ s. bind {B = ℕ} (tag (spaces indent) s) λ _ s. mapped (λ _. 34) (tag (34 ∷ []) s))
      ≡ mapped (λ _. 34) (bind (bind o (λ _ s. tag (spaces indent) s)) (λ _ s. tag (34 ∷ []) s))
  middle (got u r) = inner (tag (spaces indent) r)
  middle no = refl
  middle cut = refl

  outer : (o : Ans Unit) → bind {B = ℕ} o (λ _ s. bind {B = ℕ} (line_end s) λ _ s. bind {B = ℕ} (tag (spaces indent) s) λ _ s. mapped (λ _. 34) (tag (34 ∷ []) s))
      ≡ mapped (λ _. 34) (bind o (λ _ s. bind (feed indent s) λ _ s. tag (34 ∷ []) s))
  unfolding feed
  outer (got u r) = middle (line_end r)
  outer no = refl
  outer cut = refl

  fed : (o : Ans (List ℕ)) → bind {B = ℕ} o (λ _ s. mapped (λ _. 10) (tag (spaces indent) s)) ≡ mapped (λ _. 10) (bind o (λ _ s. tag (spaces indent) s))
  fed (got u r) = refl
  fed no = refl
  fed cut = refl

  escape_is : (z : List ℕ) → escape indent z ≡ or_else (mapped (λ _. 34) (tag (34 ∷ 34 ∷ []) z)) (later_escape indent z)
  unfolding escape later_escape split_quote second_quote feed
  escape_is z = rw (outer (tag (34 ∷ []) z), fed (line_end z))

module _ (s : List ℕ) (at indent : ℕ) (r : Step) (h : QuoteStep s at (split_quote indent (drop at s)) r) where
  pub later_quote : (n : ℕ) → r ≡ step.Got n → Escaped s at (later_escape indent (drop at s)) (escape'.Quote n)
  unfolding later_escape
  later_quote n e = record { is = rw (quote_is h e); place = quote_span h e }

  pub later_cut : r ≡ step.Cut → Escaped s at (later_escape indent (drop at s)) escape'.Cut
  unfolding later_escape
  later_cut e = record { is = rw (← h.is, e); place = tt }

  module _ (e : r ≡ step.No) (q : Step) (g : StepOne s at (feed indent (drop at s)) q) where
    pub later_feed : (n : ℕ) → q ≡ step.Got n → Escaped s at (later_escape indent (drop at s)) (escape'.Feed n)
    unfolding later_escape
    later_feed n f = record { is = rw (← h.is, e, one_is g f); place = one_places g f }

    pub later_none : q ≡ step.No → Escaped s at (later_escape indent (drop at s)) escape'.No
    unfolding later_escape
    later_none f = record { is = rw (← h.is, e, ← g.is, f); place = tt }

    pub later_unclear : q ≡ step.Cut → Escaped s at (later_escape indent (drop at s)) escape'.Cut
    unfolding later_escape
    later_unclear f = record { is = rw (← h.is, e, ← g.is, f); place = tt }

pub ruleset laters = (later_quote, later_cut, later_feed, later_none, later_unclear)

module _ (s : List ℕ) (at indent : ℕ) (r : Step) (h : QuoteStep s at (tag (34 ∷ 34 ∷ []) (drop at s)) r) where
  pub escape_quote : (n : ℕ) → r ≡ step.Got n → Escaped s at (escape indent (drop at s)) (escape'.Quote n)
  escape_quote n e = rw (escape_is indent (drop at s)) (record { is = rw (quote_is h e); place = quote_span h e })

  pub escape_cut : r ≡ step.Cut → Escaped s at (escape indent (drop at s)) escape'.Cut
  escape_cut e = rw (escape_is indent (drop at s)) (record { is = rw (← h.is, e); place = tt })

  pub escape_later : r ≡ step.No → (x : Escape) → Escaped s at (later_escape indent (drop at s)) x → Escaped s at (escape indent (drop at s)) x
  escape_later e x q = rw (escape_is indent (drop at s), ← h.is, e) q

pub ruleset escapes = (escape_quote, escape_cut, escape_later)
