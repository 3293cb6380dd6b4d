use Rattle.lg_cli.proofs.version.tell_version.Goals as goal

pub returns : goal.returns
returns g c = record {
  end = c.own_end-end.result;
  written = c.write_version.ensures.written;
  failed = c.write_version.ensures.failed;
  run = c.write_version.ensures.run;
}
