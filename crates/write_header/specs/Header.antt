-- The header's lines in the stages of the code.
use Rattle.std.specs.Prelude.{ℕ, ◌≤◌, List, ◌++◌, length}
use Rattle.spec_format.specs.Bytes.{bytes}
use Rattle.spec_format.specs.Table.{Reference, Table}
use Rattle.spec_format.specs.Write.{field_lines, maybe_lines}
use Rattle.spec_format.specs.declared.Head.{Head}
use Rattle.judge_rooms.specs.Facts.{TextIn}
use Rattle.spec_format.specs.Record.{most}

-- what stands before SOURCE
unfoldable pub first_texts : ℕ → Table → List ℕ
first_texts W t =
    maybe_lines W (bytes "DEFINITION") t.definition ++ maybe_lines W (bytes "ACCESSION") t.accession ++ maybe_lines W (bytes "VERSION") t.version ++
    maybe_lines W (bytes "DBLINK") t.dblink ++ maybe_lines W (bytes "KEYWORDS") t.keywords

-- what stands before TITLE
unfoldable pub reference_start : ℕ → Reference → List ℕ
reference_start W r =
    field_lines W (bytes "REFERENCE") r.text ++ maybe_lines W (bytes "  AUTHORS") r.authors ++ maybe_lines W (bytes "  CONSRTM") r.consrtm

pub record FirstKnown (texts : List ℕ) (h : Head) : Type 0 where
  pub small : length texts ≤ most
  pub definition : TextIn texts h.definition
  pub accession : TextIn texts h.accession
  pub version : TextIn texts h.version
  pub dblink : TextIn texts h.dblink
  pub keywords : TextIn texts h.keywords
