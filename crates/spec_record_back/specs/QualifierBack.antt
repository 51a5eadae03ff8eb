-- A value, and what starts a qualifier, written and read. The whole qualifier is in proofs/QualifierBack.antt.
use Prim.Native.Nat.{ℕ, zero, suc, ◌+◌, ◌-◌, ◌<◌, ◌≤◌}
use Rattle.std.proofs.Common.{arith, ◌∙◌, length-append, ltb-true, lt-ltb}
use Rattle.std.specs.Prelude.{Bool, ◌&&◌, ◌≡◌, eqb}
use Rattle.std.proofs.Math.Bool.{true, false}
use Rattle.std.proofs.Math.Path.{refl}
use mathlib.Core.List.{List, [], ◌∷◌, ◌++◌, append_assoc}
use Rattle.std.proofs.Math.ListN.{length}
use Rattle.std.proofs.lemmas.Bool.{not-true}
use Rattle.spec_format.specs.Bytes.{pick, May, absent, is, bytes, spaces, some, starts, all, same, visible, but}
use Rattle.spec_format.specs.Utf8.{utf8}
use Rattle.spec_format.specs.Readers.{got, no, tag, line_end}
use Rattle.spec_format.specs.Features.{bare, quoted, value, key_end, value_of, qualifier}
use Rattle.spec_format.specs.Table.{Qualifier}
use Rattle.spec_format.specs.Wrap.{comma_lines, wrap_location, wrapped, wrap_text}
use Rattle.spec_format.specs.Write.{comma_key, bare_key, key_text, value_lines, qualifier_text, qualifier_lines}
use Rattle.spec_format.specs.WellFormed.{comma_text}
use Rattle.spec_format.specs.Keeping.{lines_kept, no_slash, no_quote_first, bare_kept}
use Rattle.spec_texts_back.specs.Tests.{and_left, and_right, and_both, all_head, all_tail, all_and}
use Rattle.spec_texts_back.specs.Pieces.{no_end}
use Rattle.spec_texts_back.specs.WrapKept.{laid_one}
use Rattle.spec_texts_back.proofs.WrapKept.{wrapped_kept}
use Rattle.spec_texts_back.specs.BareBack.{ends, commas_starts}
use Rattle.spec_texts_back.proofs.BareBack.{line_bare, commas_back}
use Rattle.spec_feature_names.specs.Taken.{key_taken, visible_utf8}
use Rattle.spec_feature_names.proofs.Taken.{any_key}

-- ---- bytes

no_end_lem : (b : ℕ) → but 10 b ≡ true → but 13 b ≡ true → no_end b ≡ true
no_end_lem b h k = and_both (but 10 b) (but 13 b) h k

-- ---- a value

pub value_quoted : (k v x r : List ℕ) → quoted (same k (bytes "translation")) 21 x ≡ got v r → utf8 v ≡ true → value 21 k x ≡ got v r
unfolding value
value_quoted k v x r h u = rw (h, u)

pub value_bare : (k v x r : List ℕ) → starts (but 34) x ≡ true → bare 21 x ≡ got v r → utf8 v ≡ true → value 21 k x ≡ got v r
unfolding value quoted tag
value_bare k v [] r s h u = cc
value_bare k v (b ∷ x) r s h u = rw (not-true (eqb b 34) s, tag, h, u)

-- what stands after `=`
unfoldable pub value_text : ℕ → List ℕ → List ℕ → List ℕ
value_text W k v =
    pick (comma_key k) (comma_lines (length v) W 21 (23 + length k) v)
    (pick (bare_key k) (wrapped false W 21 (23 + length k) v) (34 ∷ wrapped true W 21 (24 + length k) v))

key_length : (k : List ℕ) → length (key_text k ++ bytes "=") ≡ 23 + length k
key_length k = simp length-append (omega arith)

pub value_lines_lem : (W : ℕ) (k v : List ℕ) → value_lines W k v ≡ (key_text k ++ bytes "=") ++ value_text W k v
unfolding value_lines value_text wrap_location wrap_text
value_lines_lem W k v = go (comma_key k) refl (bare_key k) refl
  where
    go : (x : Bool) → comma_key k ≡ x → (y : Bool) → bare_key k ≡ y → value_lines W k v ≡ (key_text k ++ bytes "=") ++ value_text W k v
    go true p y q = rw (p, key_length k)
    go false p true q = rw (p, q, wrap_text, key_length k)
    go false p false q =
        let e : suc (23 + length k) ≡ 24 + length k = omega arith in
        rw (p, q, wrap_text, key_length k, e) (append_assoc (key_text k ++ bytes "=") (34 ∷ []) (wrapped true W 21 (24 + length k) v))

-- the first byte is no quote
unquoted : (v c : List ℕ) → no_quote_first v ≡ true → starts (but 34) c ≡ true → starts (but 34) (v ++ c) ≡ true
unquoted [] c h e = e
unquoted (b ∷ v) c h e = h

unquoted_some : (v : List ℕ) → no_quote_first v ≡ true → some v ≡ true → starts (but 34) v ≡ true
unquoted_some [] h s = s
unquoted_some (b ∷ v) h s = h

-- one line, shorter than the width
line_kept : (W indent used : ℕ) (v : List ℕ) → all (but 10) v ≡ true → all (but 13) v ≡ true → used + length v < W → lines_kept false W indent used v ≡ true
unfolding lines_kept
line_kept W indent used [] f c l = lt-ltb used W (omega arith)
line_kept W indent used (b ∷ v) f c l =
    rw (not-true (eqb b 10) (all_head (but 10) b v f), not-true (eqb b 13) (all_head (but 13) b v c), lines_kept)
    (line_kept W indent (suc used) v (all_tail (but 10) b v f) (all_tail (but 13) b v c) (omega arith))

module _ (W : ℕ) (k v rest : List ℕ) (room : 25 + length k ≤ W) (fine : ends 21 rest ≡ true) where
  pub comma_value : comma_key k ≡ true → comma_text v ≡ true → (no_slash v && no_quote_first v) ≡ true → value 21 k (value_text W k v ++ rest) ≡ got v rest
  unfolding value_text
  comma_value p f h =
      let s : some v ≡ true = and_left (some v) (all visible v) f in
      let a : all visible v ≡ true = and_right (some v) (all visible v) f in
      let x : List ℕ = comma_lines (length v) W 21 (23 + length k) v ++ rest in
      let q : starts (but 34) x ≡ true =
      commas_starts W 21 (but 34) (length v) (23 + length k) v rest (omega arith) (unquoted_some v (and_right (no_slash v) (no_quote_first v) h) s) in
      let b : bare 21 x ≡ got v rest =
      commas_back W 21 (omega arith) rest fine (length v) (23 + length k) v (omega arith) s a (and_left (no_slash v) (no_quote_first v) h) (omega arith) in
      rw p (value_bare k v x rest q b (visible_utf8 v a))

  pub bare_value : comma_key k ≡ false → bare_key k ≡ true → utf8 v ≡ true → bare_kept W k v ≡ true → value 21 k (value_text W k v ++ rest) ≡ got v rest
  unfolding value_text bare_kept
  bare_value p q u h =
      let f : all (but 10) v ≡ true = search (and_left, and_right) in
      let c : all (but 13) v ≡ true = search (and_left, and_right) in
      let n : no_quote_first v ≡ true = search (and_left, and_right) in
      let l : 23 + length k + length v < W = search (and_left, and_right, ltb-true) in
      let e : wrapped false W 21 (23 + length k) v ≡ v ++ 10 ∷ [] =
      wrapped_kept false W 21 (23 + length k) v (line_kept W 21 (23 + length k) v f c l) ∙ rw (laid_one 21 v f) in
      let b : bare 21 (v ++ 10 ∷ rest) ≡ got v rest = line_bare 21 rest v fine (all_and (but 10) (but 13) no_end no_end_lem v f c) in
      rw (p, q, e, append_assoc v (10 ∷ []) rest) (value_bare k v (v ++ 10 ∷ rest) rest (unquoted v (10 ∷ rest) n refl) b u)

  pub quoted_value :
      comma_key k ≡ false → bare_key k ≡ false → quoted (same k (bytes "translation")) 21 ((34 ∷ wrapped true W 21 (24 + length k) v) ++ rest) ≡ got v rest →
      utf8 v ≡ true → value 21 k (value_text W k v ++ rest) ≡ got v rest
  unfolding value_text
  quoted_value p q h u = rw (p, q) (value_quoted k v ((34 ∷ wrapped true W 21 (24 + length k) v) ++ rest) rest h u)

-- ---- a qualifier

pub key_steps :
    (k x : List ℕ) (v : May (List ℕ)) (r : List ℕ) → key_taken k ≡ true → starts key_end x ≡ true → value_of 21 k x ≡ got v r →
    qualifier 21 (key_text k ++ x) ≡ got (record { key = k; value = v }) r
unfolding qualifier tag
key_steps k x v r t e h = rw (any_key k x t e, h)

pub flag_value : (k r : List ℕ) → value_of 21 k (10 ∷ r) ≡ got absent r
unfolding value_of tag line_end
flag_value k r = refl

pub pair_value : (k v x r : List ℕ) → value 21 k x ≡ got v r → value_of 21 k (61 ∷ x) ≡ got (is v) r
unfolding value_of tag
pair_value k v x r h = rw h

-- ---- what follows

pub qualifier_follow : (W : ℕ) (q : Qualifier) (rest : List ℕ) → ends 21 (qualifier_lines W q ++ rest) ≡ true
unfolding qualifier_lines
qualifier_follow W q rest = go q.value
  where
    go : (o : May (List ℕ)) → ends 21 (qualifier_text W q.key o ++ rest) ≡ true
    go absent = refl
    go (is v) = rw (value_lines_lem W q.key v)

-- fewer than n spaces and another byte
abbrev pub outside : ℕ → List ℕ → Bool
outside zero s = false
outside (suc n) [] = false
outside (suc n) (b ∷ s) = elim (eqb b 32) [ true ↦ outside n s | false ↦ true ]

pub outside_ends : (n : ℕ) (s : List ℕ) → outside n s ≡ true → ends n s ≡ true
outside_ends zero s h = cc
outside_ends (suc n) [] h = h
outside_ends (suc n) (b ∷ s) h = go (outside_ends n s) (eqb b 32) refl
  where
    go : (outside n s ≡ true → ends n s ≡ true) → (x : Bool) → eqb b 32 ≡ x → ends (suc n) (b ∷ s) ≡ true
    go ih true p = cc (ih (cc))
    go ih false p = cc

outside_tag : (n : ℕ) (s : List ℕ) → outside n s ≡ true → tag (spaces n) s ≡ no
unfolding tag
outside_tag zero s h = cc
outside_tag (suc n) [] h = cc
outside_tag (suc n) (b ∷ s) h = go (outside_tag n s) (eqb b 32) refl
  where
    go : (outside n s ≡ true → tag (spaces n) s ≡ no) → (x : Bool) → eqb b 32 ≡ x → tag (spaces (suc n)) (b ∷ s) ≡ no
    go ih true p = rw (tag, p) (ih (cc))
    go ih false p = rw (tag, p)

pub outside_qualifier : (n : ℕ) (s : List ℕ) → outside n s ≡ true → qualifier n s ≡ no
unfolding qualifier
outside_qualifier n s h = rw (outside_tag n s h)

pub starts_outside : (n : ℕ) (s : List ℕ) → starts (but 32) s ≡ true → outside (suc n) s ≡ true
starts_outside n [] h = h
starts_outside n (b ∷ s) h = cc (not-true (eqb b 32) h)
