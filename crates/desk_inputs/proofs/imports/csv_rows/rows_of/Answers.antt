use Rattle.std.proofs.Common.{◌∙◌, ◌+◌, length, ap, inr, sym, arith}
use Rattle.csv.specs.Machine.{ends_at_end}
use Rattle.csv.specs.Reading.{default_config, records_from, strip_bom}
use Rattle.desk_inputs.proofs.imports.csv_rows.rows_of.Goals as goal

pub returns : goal.returns
returns c =
    let f = c.flexible.ensures in
    let h = c.has_headers.ensures in
    let fr = c.from_reader.ensures in
    let start = fr.state in
    record {
      trim = rw (f, h) at fr.trim ∙ c.new.ensures.trim;
      ready = inr (inr (rw (f, h) at fr.has_headers, fr.headers));
      config = rw (f, h) at fr.config ∙ c.new.ensures.config;
      between = ap ends_at_end start;
      text = strip_bom c.args.text.now;
      source = fr.source;
      most = length (strip_bom c.args.text.now) + 1;
      enough = omega arith;
      are = ap (λ s. records_from default_config (length (strip_bom c.args.text.now) + 1) s (strip_bom c.args.text.now)) (sym start);
    }
