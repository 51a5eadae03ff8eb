-- A location by its bare text, and by the reading of its one line or of the text so far, which are that text. Assumes nothing.
use Prim.Native.Nat.{ℕ, ◌+◌, ◌-◌, ◌≤◌}
use mathlib.Core.Path.{◌≡◌, refl, sym, ◌∙◌, subst}
use mathlib.Core.Bool.{Bool, true, false}
use mathlib.Core.List.{List}
use native.Mathlib.Omega.{arith}
use lib.ListN.{length, drop}
use Rattle.spec_format.specs.Impossible.{impossible}
use Rattle.spec_format.specs.Readers.{Ans, got, passing}
use Rattle.spec_format.specs.Features.{bare}
use Rattle.spec_format.specs.Location.{reading, is_deep, locates, rows_in}
use Rattle.spec_format.specs.Deep.{so_far, deep_feature}
use Rattle.spec_location.specs.Bytes.{locates_most, locates_rows}
use Rattle.spec_location.specs.SoFar.{so_far_bare}
use Rattle.scan_bytes.specs.Places.{part}
use Rattle.scan_bytes.specs.Parts.{length_part}
use Rattle.read_location.specs.declared.Location.{Location}
use Rattle.read_location.specs.declared.Location.TheVariants as location
use Rattle.read_location.specs.Reads.{Answered}
use Rattle.read_feature_location.specs.Answers.{answer_rows, answer_none, answer_deep}
use Rattle.read_feature_joined.specs.Views.{Span, passing_got, passing_no}
use Rattle.read_feature_bare.specs.declared.Stretch.{Stretch}
use Rattle.read_feature_bare.specs.declared.Stretch.TheVariants as stretch
use Rattle.read_feature_bare.specs.Bared.{bare_text, Stretched, stretched_is, stretched_places}
use Rattle.read_feature_names.specs.Headed.{PastKind, feature_head, KindRead, deep_is}
use Rattle.read_feature_names.specs.declared.Kind.{Kind}
use Rattle.read_feature_names.specs.declared.Kind.TheVariants as kind
use Rattle.read_feature_location.specs.declared.Located.{Located}
use Rattle.read_feature_location.specs.declared.Located.TheVariants as located
use Rattle.read_feature_location.specs.Places.{taken_of, LocationPut}

-- ---- the location

pub taken_read : (x : Location) (n next : ℕ) (line : Bool) (rows : ℕ) (same : Bool) → x ≡ location.Read rows same → located.Got n next rows line ≡ taken_of x n next line
taken_read x n next line rows same e = rw e

module _ (s : List ℕ) (at indent : ℕ) (r : Stretch) (h : Stretched s at (bare_text indent (drop at s)) (bare indent (drop at s)) r) where
  abbrev text : List ℕ
  text = bare_text indent (drop at s)

  abbrev as_location : Ans (List ℕ)
  as_location = passing (locates false) (bare indent (drop at s))

  pub bare_no : (old new : List ℕ) (first : ℕ) → r ≡ stretch.No → LocationPut s at text as_location old new first located.No
  bare_no old new first q = record { found = record { is = rw (← h.is, q); place = tt }; put = tt }

  pub bare_cut : (old new : List ℕ) (first : ℕ) → r ≡ stretch.Cut → LocationPut s at text as_location old new first located.Cut
  bare_cut old new first q = record { found = record { is = rw (← h.is, q); place = tt }; put = tt }

  -- the places of a line, and the line by itself
  module _ (e next : ℕ) (q : r ≡ stretch.Line e next) where
    pub line_from : at ≤ e
    line_from = (stretched_places h q).from

    pub line_within : e ≤ length s
    line_within = let p = (stretched_places h q).span in let i = line_from in omega (arith, p.short, p.within)

    pub line_small : length s ≤ 16777216 → length (part at e s) ≤ 16777216
    line_small l = omega (arith, l, line_within, length_part s at e line_from line_within)

  module _ (next : ℕ) (seen old : List ℕ) (first : ℕ) (new : List ℕ) (x : Location) (v : Located) where
    -- a text that stands there is taken where it has a reading
    text_taken : (n : ℕ) (line : Bool) → bare indent (drop at s) ≡ got text (drop next s) → Span s at text n next → (line ≡ true → text ≡ part at (at + n) s)
        → Answered (reading false text) seen old first new x → v ≡ taken_of x n next line → LocationPut s at text as_location old new first v
    text_taken n line b p single w e = rw e (go x refl)
      where
        untaken : locates false text ≡ false → LocationPut s at text as_location old new first located.No
        untaken q = record { found = record { is = passing_no (locates false) b q; place = tt }; put = tt }

        go : (y : Location) → x ≡ y → LocationPut s at text as_location old new first (taken_of y n next line)
        go (location.Read rows same) q =
            let k = answer_rows w q in
            record {
              found =
                  record {
                    is = passing_got (locates false) b k.0;
                    place = record { span = p; counted = k.1; few = omega (arith, k.1, p.long, locates_most false text k.0); single = single };
                  };
              put = w.put (rows_in false text) (locates_rows false text k.0);
            }
        go location.None q = untaken (answer_none w q)
        go location.TooDeep q = untaken (answer_deep w q)

    pub line_located : (e : ℕ) → r ≡ stretch.Line e next → Answered (reading false (part at e s)) seen old first new x → v ≡ taken_of x (e - at) next true
        → LocationPut s at text as_location old new first v
    line_located e q w f =
        let p = stretched_places h q in
        let i = line_from e next q in
        let z : e ≡ at + (e - at) = omega arith in
        text_taken (e - at) true (stretched_is h q) p.span (λ _. rw (← z) p.is) (rw p.is w) f

    pub lines_located : (n : ℕ) → r ≡ stretch.Lines n next → Answered (reading false (so_far false indent (drop at s))) seen old first new x → v ≡ taken_of x n next false
        → LocationPut s at text as_location old new first v
    lines_located n q w f =
        text_taken n false (stretched_is h q) (stretched_places h q) (λ e. impossible cc) (rw (so_far_bare indent (drop at s) _ _ (stretched_is h q)) at w) f

pub ruleset locating = (bare_no, bare_cut, line_from, line_within, line_small, line_located, lines_located)

-- ---- number 14 of a feature

module _ (s : List ℕ) (at : ℕ) (r : Kind) (h : KindRead s at (feature_head (drop at s)) r) where
  head_places : (first end next : ℕ) → r ≡ kind.Got first end next → PastKind s at (kind.Got first end next)
  head_places first end next e = subst (λ (x : Kind). PastKind s at x) e h.place

  pub head_ahead : (first end next : ℕ) → r ≡ kind.Got first end next → at ≤ next
  head_ahead first end next e = let p = head_places first end next e in omega arith

  pub head_within : (first end next : ℕ) → r ≡ kind.Got first end next → next ≤ length s
  head_within first end next e = (head_places first end next e).3

  pub head_no : r ≡ kind.No → false ≡ deep_feature (drop at s)
  head_no e = rw (deep_is (drop at s), ← h.is, e)

  pub head_cut : r ≡ kind.Cut → false ≡ deep_feature (drop at s)
  head_cut e = rw (deep_is (drop at s), ← h.is, e)

  pub head_got : (first end next : ℕ) (b : Bool) → r ≡ kind.Got first end next → b ≡ is_deep (reading false (so_far false (next - at) (drop next s))) →
      b ≡ deep_feature (drop at s)
  head_got first end next b e k = k ∙ sym (rw (deep_is (drop at s), ← h.is, e))

pub ruleset heads = (head_ahead, head_within, head_no, head_cut, head_got)
