-- What stands before and behind the lines of the features, and what is known where it is put.
use Rattle.std.specs.Prelude.{ℕ, zero, suc, ◌≤◌, ◌≡◌, refl, List, [], ◌++◌, length, take}
use Rattle.std.proofs.Common.{le_trans}
use Rattle.spec_format.specs.Bytes.{bytes}
use Rattle.spec_format.specs.Rooms.{Rooms, may_contig, may_length, table_of, rooms_in}
use Rattle.spec_format.specs.Write.{length_or, header_lines, contig_lines, origin_lines}
use Rattle.spec_format.specs.declared.Head.{Head}
use Rattle.judge_header.specs.Rules.{HeaderKnown, header_known}
use Rattle.write_locus.specs.Line.{line_with}
use Rattle.judge_rooms.specs.Facts.{HeadIn, ContigIn}
use Rattle.judge_rooms.proofs.Facts.{rooms_in_lem}
use Rattle.judge_rooms.specs.Parts.{reference_rooms, rest_head}
use Rattle.judge_record.specs.Rest.{Passed}
use Rattle.spec_format.specs.declared.How.{How}
use Rattle.spec_format.specs.Record.{most}

-- the line of FEATURES stands only where there is a feature
abbrev pub title : ℕ → List ℕ
title zero = []
title (suc n) = bytes "FEATURES             Location/Qualifiers\n"

pub title_none : (n : ℕ) → n ≡ 0 → [] ≡ title n
title_none n e = rw e

pub title_some : (n : ℕ) → (n ≡ 0 → ⊥) → bytes "FEATURES             Location/Qualifiers\n" ≡ title n
title_some zero h = absurd (h refl)
title_some (suc n) h = refl

-- what stands before n features, and what stands behind them
unfoldable pub before_parts : List ℕ → List ℕ → List ℕ → Head → ℕ → How → List ℕ
before_parts t rf cm h n how =
    line_with how.truncate how.escape (length_or (may_length h.length) h.letters) (table_of (reference_rooms t []) h) ++
    header_lines how.width (table_of (rooms_in t rf cm [] [] [] []) h) ++
    title n

unfoldable pub after_parts : List ℕ → List ℕ → Head → ℕ → List ℕ
after_parts t l h W = contig_lines W (may_contig (reference_rooms t []) h.contig) ++ (origin_lines (take h.letters l) ++ bytes "//\n")

-- what is known where they are put
pub record BeforeKnown (t rf cm : List ℕ) (h : Head) (W : ℕ) : Type 0 where
  pub head : HeadIn t h
  pub small : length t ≤ most
  pub letters : h.letters ≤ most
  pub header : HeaderKnown t rf cm h
  pub narrowest : 60 ≤ W
  pub widest : W ≤ 132

pub record AfterKnown (t l : List ℕ) (h : Head) (W : ℕ) : Type 0 where
  pub small : length t ≤ most
  pub contig : ContigIn t h.contig
  pub narrowest : 60 ≤ W
  pub widest : W ≤ 132
  pub letters : h.letters ≤ length l
  pub few : length l ≤ most

pub before_known : (W : ℕ) (r : Rooms) (h : Head) → Passed W r h → BeforeKnown r.texts r.references r.comments h W
before_known W r h p =
    let k = rooms_in_lem r h p.rooms in
    record {
      head = k.head;
      small = k.lengths.texts;
      letters = le_trans k.counts.letters k.lengths.letters;
      header = header_known r h k;
      narrowest = p.narrowest;
      widest = p.widest;
    }

pub after_known : (W : ℕ) (r : Rooms) (h : Head) → Passed W r (rest_head h) → ContigIn r.texts h.contig → AfterKnown r.texts r.letters h W
after_known W r h p c =
    let k = rooms_in_lem r (rest_head h) p.rooms in
    record {
      small = k.lengths.texts;
      contig = c;
      narrowest = p.narrowest;
      widest = p.widest;
      letters = k.counts.letters;
      few = k.lengths.letters;
    }
