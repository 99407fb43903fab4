-- Reports as mathematical values, for use in contracts.
use Rattle.std.specs.Prelude.{ℕ, List}
use Rattle.lset_words.specs.declared.Kind.{Kind}
use Rattle.lset_words.specs.declared.history.Placed.{Placed}
use Rattle.lset_history.specs.History.{HistoryValue}
use Rattle.lset_text.specs.declared.words.Version.{Version}
use Rattle.lset_report.specs.declared.report.Report.{Report}

-- A report in which lists replace the vectors of the type `Report`.
pub record ReportValue : Type 0 where
  pub version : Version
  pub kind : Kind
  pub history : HistoryValue
  pub order : List Placed
  pub keys : List ℕ

abbrev pub view : Report → ReportValue
view r = record { version = r.version; kind = r.kind; history = r.history; order = r.order.items; keys = r.keys.items }
