-- A LOCUS line from its tokens: how many there are, and each test on one.
use Rattle.std.specs.Prelude.{Option, Some, None}
use Prim.Native.Nat.{ℕ, ◌-◌, ◌≤◌, ◌<◌}
use mathlib.Core.Path.{◌≡◌, refl, sym, ap, ◌∙◌}
use mathlib.Core.Bool.{Bool, true, false, not, ◌&&◌, ◌||◌}
use mathlib.Core.List.{List, [], ◌∷◌}
use native.Mathlib.Nat.{le_trans}
use native.Mathlib.Omega.{arith}
use borrow.Author.Tests.{ne_eqb, not-true, not-false}
use lib.Dec.{leb}
use lib.ListN.{length}
use Rattle.spec_format.specs.Bytes.{pick, May, absent, is, bytes, all, same, digit, but, number}
use Rattle.spec_format.specs.Table.{Locus}
use Rattle.spec_format.specs.Dates.{is_date}
use Rattle.spec_format.specs.Locus.{tokens, date_token, unknown, locus_from, locus_of, locus_line}
use Rattle.spec_format.specs.declared.Date.{Date}
use Rattle.spec_format.specs.declared.Span.{Span}
use Rattle.read_locus_tokens.specs.declared.Token.{Token}
use Rattle.read_locus_tokens.specs.declared.Token.TheVariants as token
use Rattle.read_locus_tokens.specs.Parts.{cut, spanned, bases_of, plain_byte, Ends, TokenEnds, NextToken, tokens_from}
use Rattle.read_locus_tokens.proofs.Worded.{all_tokens}

abbrev pub at_bases : Option ℕ → (ℕ → Locus) → Locus
at_bases None f = unknown
at_bases (Some n) f = f n

abbrev pub at_date : Option Date → (Date → Locus) → Locus
at_date None f = unknown
at_date (Some d) f = f d

staged : (a d l v u x y : Bool) (t : Option Date) (n : ℕ) (f : ℕ → Bool → Option Date → Locus) →
    pick (a && (d && (l && (v && (u && ((x || y) && is_date t)))))) (f n y t) unknown ≡
    pick a (at_bases (pick (d && (l && v)) (Some n) None) (λ k. pick u (at_date t (λ o. pick y (f k true (Some o)) (pick x (f k false (Some o)) unknown))) unknown)) unknown
staged false d l v u x y t n f = refl
staged true false l v u x y t n f = refl
staged true true false v u x y t n f = refl
staged true true true false u x y t n f = refl
staged true true true true false x y t n f = refl
staged true true true true true true y None n f = refl
staged true true true true true false true None n f = refl
staged true true true true true false false None n f = refl
staged true true true true true true true (Some o) n f = refl
staged true true true true true true false (Some o) n f = refl
staged true true true true true false true (Some o) n f = refl
staged true true true true true false false (Some o) n f = refl

-- the values of seven texts, of which the length, the topology and the date are given
abbrev pub valued : List ℕ → May (List ℕ) → List ℕ → ℕ → Bool → Option Date → Locus
valued name molecule division n circular date = record { name = is name; length = is n; molecule = molecule; circular = circular; division = division; date = date }

module _ (name count unit : List ℕ) (molecule : May (List ℕ)) (topology division date : List ℕ) where
  abbrev found : ℕ → Bool → Option Date → Locus
  found = valued name molecule division

  abbrev shape_of : ℕ → Date → Locus
  shape_of n o = pick (same topology (bytes "circular")) (found n true (Some o)) (pick (same topology (bytes "linear")) (found n false (Some o)) unknown)

  in-stages : locus_from name count unit molecule topology division date ≡
      pick (all (but 58) name) (at_bases (bases_of count) (λ k. pick (same unit (bytes "bp")) (at_date (date_token date) (shape_of k)) unknown)) unknown
  unfolding locus_from
  in-stages =
      staged (all (but 58) name) (all digit count) (leb (length count) 10) (leb (number 0 count) 4294967295) (same unit (bytes "bp"))
      (same topology (bytes "linear")) (same topology (bytes "circular")) (date_token date) (number 0 count) found

  abbrev whole : Locus
  whole = locus_from name count unit molecule topology division date

  -- each way out of the tests, by what they returned
  module _ (a : Bool) (ea : a ≡ all (but 58) name) where
    pub no_name : not a ≡ true → unknown ≡ whole
    no_name h = sym (in-stages ∙ rw (← ea, not-true a h))

    module _ (h : not a ≡ false) (c : Option ℕ) (ec : c ≡ bases_of count) where
      pub no_bases : c ≡ None → unknown ≡ whole
      no_bases k = sym (in-stages ∙ rw (← ea, not-false a h, ← ec, k))

      module _ (n : ℕ) (k : c ≡ Some n) (u : Bool) (eu : u ≡ same unit (bytes "bp")) where
        pub no_unit : not u ≡ true → unknown ≡ whole
        no_unit f = sym (in-stages ∙ rw (← ea, not-false a h, ← ec, k, ← eu, not-true u f))

        module _ (f : not u ≡ false) (t : Option Date) (et : t ≡ date_token date) where
          pub no_date : t ≡ None → unknown ≡ whole
          no_date g = sym (in-stages ∙ rw (← ea, not-false a h, ← ec, k, ← eu, not-false u f, ← et, g))

          pub by_shape : (o : Date) → t ≡ Some o → (r : Locus) → r ≡ shape_of n o → r ≡ whole
          by_shape o g r e = e ∙ sym (in-stages ∙ rw (← ea, not-false a h, ← ec, k, ← eu, not-false u f, ← et, g))

-- what the next token says of the tokens
module _ (s : List ℕ) (at to : ℕ) (r : Token) (n : NextToken s at to r) where
  pub next_none : r ≡ token.None → tokens (cut s at to) ≡ []
  next_none e = sym n.is ∙ ap (tokens_from s to) e

  module _ (x : Span) (e : ℕ) (h : r ≡ token.At x e) where
    pub next_is : tokens (cut s at to) ≡ spanned s x ∷ tokens (cut s e to)
    next_is = sym n.is ∙ ap (tokens_from s to) h

    pub next_end : e ≤ to
    next_end = let w : TokenEnds at to (token.At x e) = rw h at n.within in w.1.1

    pub next_in : to ≤ length s → Ends (length s) x
    next_in k = let w : TokenEnds at to (token.At x e) = rw h at n.within in le_trans w.0 k

pub few : (ts : List (List ℕ)) → length ts < 6 → unknown ≡ locus_of ts
unfolding locus_of
few ts h = rw (ne_eqb (length ts) 7 (λ z. omega arith), ne_eqb (length ts) 6 (λ z. omega arith))

pub many : (ts : List (List ℕ)) → 7 < length ts → unknown ≡ locus_of ts
unfolding locus_of
many ts h = rw (ne_eqb (length ts) 7 (λ z. omega arith), ne_eqb (length ts) 6 (λ z. omega arith))

module _ (a b c d e f : List ℕ) where
  pub six : locus_of (a ∷ b ∷ c ∷ d ∷ e ∷ f ∷ []) ≡ locus_from a b c absent d e f
  unfolding locus_of
  six = refl

  pub seven : (g : List ℕ) → locus_of (a ∷ b ∷ c ∷ d ∷ e ∷ f ∷ g ∷ []) ≡ locus_from a b c (is d) e f g
  unfolding locus_of
  seven g = refl

-- a line with a byte that may not stand there, and one without
module _ (l : List ℕ) (r : Bool) (e : r ≡ all plain_byte l) where
  pub not_plain : not r ≡ true → unknown ≡ locus_line l
  unfolding locus_line
  not_plain h = rw (all_tokens l, ← e, not-true r h)

  pub is_plain : not r ≡ false → locus_of (tokens l) ≡ locus_line l
  unfolding locus_line
  is_plain h = rw (all_tokens l, ← e, not-false r h)
