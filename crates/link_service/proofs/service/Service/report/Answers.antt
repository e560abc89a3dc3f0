use Rattle.link_service.proofs.Active.{oldest-there}
use Rattle.link_service.proofs.service.Service.report.Goals as goal

pub do_report-requires : goal.do_report-requires
do_report-requires c = oldest-there c.args.self.now c.args.p c.args.report.now (c.is_oldest.ensures.0 c.if-not-is_oldest.false)
