-- The answers of scans over bare texts as readers' answers, and the text that a bare reading gives, as a function of the bytes alone.
use Rattle.std.specs.Prelude.{ℕ, ◌+◌, ◌-◌, ◌≤◌, ◌<◌, ◌≡◌, List, [], ◌++◌, length, drop}
use Rattle.std.proofs.Common.{subst, arith, length-drop}
use Rattle.spec_format.specs.Readers.{Ans, got, no, cut, Turn, more, stop, line}
use Rattle.spec_format.specs.Features.{bare_more, bare}
use Rattle.spec_loops.specs.Shrinks.{leaves_length}
use Rattle.spec_loops.proofs.Shrinks.{bare_takes}
use Rattle.scan_bytes.specs.Places.{part}
use Rattle.read_feature_joined.specs.Taken.{taken}
use Rattle.read_feature_joined.specs.Views.{Span}
use Rattle.scan_utf8.specs.declared.State.{State}
use Rattle.scan_utf8.specs.States.{start, Ran}
use Rattle.read_feature_bare.specs.declared.Further.{Further}
use Rattle.read_feature_bare.specs.declared.Further.TheVariants as further
use Rattle.read_feature_bare.specs.declared.Bare.{Bare}
use Rattle.read_feature_bare.specs.declared.Bare.TheVariants as bare'
use Rattle.read_feature_bare.specs.declared.Stretch.{Stretch}
use Rattle.read_feature_bare.specs.declared.Stretch.TheVariants as stretch

-- the text after a first line was read
abbrev pub bare_from : ℕ → Ans (List ℕ) → List ℕ
bare_from indent (got first r) = first ++ taken (bare_more indent) r
bare_from indent no = []
bare_from indent cut = []

-- what `bare` gives, where it gives a text
unfoldable pub bare_text : ℕ → List ℕ → List ℕ
bare_text indent s = bare_from indent (line s)

abbrev pub further_of : List ℕ → ℕ → Further → Ans (Turn (List ℕ))
further_of s at (further.Line from end next) = got (more (part from end s)) (drop next s)
further_of s at further.Stop = got stop (drop at s)
further_of s at further.No = no
further_of s at further.Cut = cut

pub record LineSpan (s : List ℕ) (at from end next : ℕ) : Type 0 where
  pub after : at ≤ from
  pub long : from ≤ end
  pub ended : end < next
  pub within : next ≤ length s

abbrev pub PastFurther : List ℕ → ℕ → Further → Type 0
PastFurther s at (further.Line from end next) = LineSpan s at from end next
PastFurther s at further.Stop = Unit
PastFurther s at further.No = Unit
PastFurther s at further.Cut = Unit

pub record Furthered (s : List ℕ) (at : ℕ) (o : Ans (Turn (List ℕ))) (r : Further) : Type 0 where
  pub is : further_of s at r ≡ o
  pub place : PastFurther s at r

abbrev pub bare_of : List ℕ → List ℕ → Bare → Ans (List ℕ)
bare_of s t (bare'.Got n next state) = got t (drop next s)
bare_of s t bare'.No = no
bare_of s t bare'.Cut = cut

-- the text t comes from bytes from `at` up to `next`; the count and the test went on from `first` and `before`
pub record BareSpan (s : List ℕ) (at first : ℕ) (before : State) (t : List ℕ) (n next : ℕ) (state : State) : Type 0 where
  pub from : at ≤ next
  pub within : next ≤ length s
  pub long : n ≡ first + length t
  pub short : n + at ≤ next + first
  pub ran : Ran before t state

abbrev pub PastBare : List ℕ → ℕ → ℕ → State → List ℕ → Bare → Type 0
PastBare s at first before t (bare'.Got n next state) = BareSpan s at first before t n next state
PastBare s at first before t bare'.No = Unit
PastBare s at first before t bare'.Cut = Unit

pub record Bared (s : List ℕ) (at first : ℕ) (before : State) (t : List ℕ) (o : Ans (List ℕ)) (r : Bare) : Type 0 where
  pub is : bare_of s t r ≡ o
  pub place : PastBare s at first before t r

-- the same without the test
abbrev pub over_lines : Bare → Stretch
over_lines (bare'.Got n next state) = stretch.Lines n next
over_lines bare'.No = stretch.No
over_lines bare'.Cut = stretch.Cut

abbrev pub stretch_of : List ℕ → List ℕ → Stretch → Ans (List ℕ)
stretch_of s t (stretch.Line end next) = got t (drop next s)
stretch_of s t (stretch.Lines n next) = got t (drop next s)
stretch_of s t stretch.No = no
stretch_of s t stretch.Cut = cut

-- the text t stands in one line, from `at` up to `end`
pub record InLine (s : List ℕ) (at : ℕ) (t : List ℕ) (end next : ℕ) : Type 0 where
  pub is : t ≡ part at end s
  pub from : at ≤ end
  pub span : Span s at t (end - at) next

abbrev pub PastStretch : List ℕ → ℕ → List ℕ → Stretch → Type 0
PastStretch s at t (stretch.Line end next) = InLine s at t end next
PastStretch s at t (stretch.Lines n next) = Span s at t n next
PastStretch s at t stretch.No = Unit
PastStretch s at t stretch.Cut = Unit

pub record Stretched (s : List ℕ) (at : ℕ) (t : List ℕ) (o : Ans (List ℕ)) (r : Stretch) : Type 0 where
  pub is : stretch_of s t r ≡ o
  pub place : PastStretch s at t r

-- ---- what is known once the answer is

module _ {s : List ℕ} {at first : ℕ} {before : State} {t : List ℕ} {o : Ans (List ℕ)} {r : Bare} {n next : ℕ} {state : State}
    (h : Bared s at first before t o r) (q : r ≡ bare'.Got n next state) where
  pub bared_is : o ≡ got t (drop next s)
  bared_is = rw (← h.is, q)

  pub bared_span : BareSpan s at first before t n next state
  bared_span = subst (λ (x : Bare). PastBare s at first before t x) q h.place

-- a whole bare text has its line end at least
pub bared_places : (s : List ℕ) (at indent : ℕ) (r : Bare) (n next : ℕ) (state : State)
    → Bared s at 0 start (bare_text indent (drop at s)) (bare indent (drop at s)) r → r ≡ bare'.Got n next state → Span s at (bare_text indent (drop at s)) n next
bared_places s at indent r n next state h q =
    let k = leaves_length (bare_takes indent (drop at s)) _ _ (bared_is h q) in
    let b = bared_span h q in let w = b.within in let f = b.from in let y = b.short in let d = b.long in
    let i : length (drop next s) ≡ length s - next = length-drop next s in
    let j : length (drop at s) ≡ length s - at = length-drop at s in
    record { from = omega arith; within = w; long = omega arith; short = omega arith }

module _ {s : List ℕ} {at : ℕ} {t : List ℕ} {o : Ans (List ℕ)} {r : Stretch} (h : Stretched s at t o r) where
  pub stretched_is : {x : Stretch} → r ≡ x → o ≡ stretch_of s t x
  stretched_is q = rw (← h.is, q)

  pub stretched_places : {x : Stretch} → r ≡ x → PastStretch s at t x
  stretched_places q = subst (λ (x : Stretch). PastStretch s at t x) q h.place
