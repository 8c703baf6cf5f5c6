mod MpiExamples
